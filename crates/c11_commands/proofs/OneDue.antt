-- For the same words and the same text of a source one status and one text are due.
use Rattle.std.proofs.Common.{◌≡◌, ℕ, true, false, List, [], Option, Some, None, refl, sym, ap, ◌∙◌, subst}
use Rattle.c11_check.specs.declared.checked.Checked.{Checked}
use Rattle.c11_check.specs.Checked.{IsChecked}
use Rattle.c11_check.specs.Tables.{tables_of, main_of}
use Rattle.c11_events.specs.declared.entry.Entry.{Entry}
use Rattle.c11_events.specs.declared.verdict.Verdict.{Verdict}
use Rattle.c11_events.specs.Offered.{Offered}
use Rattle.c11_machine.specs.Programs.{program_of}
use Rattle.c11_machine.specs.Runs.{OneRun}
use Rattle.c11_machine.specs.Runs.{Program as Runnable}
use Rattle.c11_run.specs.Laws.{OneRunIsOne}
use Rattle.c11_report.specs.declared.refusal.Refusal.{Refusal}
use Rattle.c11_report.specs.declared.summary.Summary.{Summary}
use Rattle.c11_report.specs.declared.text.Mode.TheVariants as mode
use Rattle.c11_report.specs.Execution.{Names, execution_bytes, names_of}
use Rattle.c11_report.specs.Refusals.{refusal_bytes}
use Rattle.c11_report.specs.Summaries.{summary_bytes}
use Rattle.c11_campaign.specs.Laws.{OneSummary}
use Rattle.c11_campaign.specs.Summaries.{IsSummary}
use Rattle.c11_accepts.specs.Laws.{OneProgram, OneRefusal, NotBoth}
use Rattle.c11_ring.specs.Ring.{ring_bytes}
use Rattle.c11_commands.specs.declared.words.Command.{Command}
use Rattle.c11_commands.specs.declared.words.Command.TheVariants.{Help, Run, Campaign, Trial}
use Rattle.c11_commands.specs.declared.words.Status.{Status}
use Rattle.c11_commands.specs.Statuses.{status_of, status_of_tallies}
use Rattle.c11_commands.specs.Answers.{IsDue, alone, answered, refused}
use Rattle.c11_commands.specs.Jobs.{Job, job_of, IsRunOf, IsCampaignOf, campaign_job, run_job, trial_job, usage_job}
use Rattle.c11_commands.proofs.Answering.{IsGood, good_usage}
use Rattle.c11_commands.proofs.CampaignDue.{good_campaign, good_trial}
use Rattle.c11_commands.proofs.RunDue.{good_run}
use Rattle.c11_commands.specs.declared.words.Status.TheVariants.{Done, Usage}

-- what a program declares and does is one
same_tables : (a b : Checked) → IsChecked a.program a → IsChecked b.program b → a.program ≡ b.program → a.tables ≡ b.tables
same_tables a b p q same = p.tables_are ∙ (ap tables_of same ∙ sym q.tables_are)

same_names : (a b : Checked) → IsChecked a.program a → IsChecked b.program b → a.program ≡ b.program → names_of a ≡ names_of b
same_names a b p q same =
    let tables = same_tables a b p q same in
    λ i. record { atomic = (tables i).atomics; plain = (tables i).plains; mutexes = (tables i).mutexes; functions = (tables i).functions }

same_program : (a b : Checked) → IsChecked a.program a → IsChecked b.program b → a.program ≡ b.program → program_of a ≡ program_of b
same_program a b p q same =
    let tables = same_tables a b p q same in
    let mains : Some a.main ≡ Some b.main = sym p.main_is ∙ (ap main_of same ∙ q.main_is) in
    let main : a.main ≡ b.main = cc in
    cc

-- of each command the answer to a text is one
OneAnswer : Job → Type 0
OneAnswer job = (text : List ℕ) (one other : Status) (bytes others : List ℕ) → job.answers text one bytes → job.answers text other others → (one ≡ other) × (bytes ≡ others)

OneRefused : Job → Type 0
OneRefused job = (text : List ℕ) (one other : Refusal) → job.refuses text one → job.refuses text other → one ≡ other

one_run : OneProgram → OneRunIsOne → (seed bound : ℕ) → OneAnswer (run_job seed bound)
unfolding OneAnswer
one_run programs runs seed bound text one other bytes others p q =
    let same : p.checked.program ≡ q.checked.program = programs text p.checked.program q.checked.program p.accepted q.accepted in
    let run = subst (λ (x : Runnable). OneRun Offered x seed bound p.run.entries p.run.verdict) (same_program p.checked q.checked p.is q.is same) p.run.run in
    let both = runs (program_of q.checked) seed bound p.run.entries q.run.entries p.run.verdict q.run.verdict run q.run.run in
    let ends : status_of p.run.verdict ≡ status_of q.run.verdict = ap status_of both.1 in
    let names = ap (λ (x : Names). execution_bytes x mode.Run seed bound p.run.entries p.run.verdict) (same_names p.checked q.checked p.is q.is same) in
    let entries = ap (λ (es : List Entry). execution_bytes (names_of q.checked) mode.Run seed bound es p.run.verdict) both.0 in
    let verdict = ap (λ (v : Verdict). execution_bytes (names_of q.checked) mode.Run seed bound q.run.entries v) both.1 in
    (p.run.ends ∙ (ends ∙ sym q.run.ends), p.run.printed ∙ (names ∙ (entries ∙ (verdict ∙ sym q.run.printed))))

-- the same of the runs of a text
one_campaign : OneProgram → OneSummary → (first count bound : ℕ) (text : List ℕ) (one other : Status) (bytes others : List ℕ) → IsCampaignOf first count bound text one bytes
    → IsCampaignOf first count bound text other others → (one ≡ other) × (bytes ≡ others)
one_campaign programs summaries first count bound text one other bytes others p q =
    let same : p.checked.program ≡ q.checked.program = programs text p.checked.program q.checked.program p.accepted q.accepted in
    let sums = subst (λ (x : Runnable). IsSummary x first count bound p.sums.summary) (same_program p.checked q.checked p.is q.is same) p.sums.is in
    let is : p.sums.summary ≡ q.sums.summary = summaries (program_of q.checked) first count bound p.sums.summary q.sums.summary sums q.sums.is in
    let ends : status_of_tallies p.sums.summary.tallies ≡ status_of_tallies q.sums.summary.tallies = ap (λ (s : Summary). status_of_tallies s.tallies) is in
    let printed : summary_bytes p.sums.summary ≡ summary_bytes q.sums.summary = ap summary_bytes is in
    (p.sums.ends ∙ (ends ∙ sym q.sums.ends), p.sums.printed ∙ (printed ∙ sym q.sums.printed))

-- what is due to a text is its answer, or its refusal, and never both
one_due : (job : Job) → IsGood job → OneAnswer job → OneRefused job → (text : List ℕ) (now after : Option (List ℕ)) (one other : Status) (bytes others : List ℕ)
    → IsDue job (Some text) now one bytes → IsDue job (Some text) after other others → (one ≡ other) × (bytes ≡ others)
unfolding OneAnswer OneRefused
one_due job good answer refusal text now after one other bytes others (alone none a) (alone none' b) = answer [] one other bytes others a b
one_due job good answer refusal text now after one other bytes others (alone none a) (answered reads held read b) = absurd (let clash : true ≡ false = sym reads ∙ none in cc)
one_due job good answer refusal text now after one other bytes others (alone none a) (refused reads held read b) = absurd (let clash : true ≡ false = sym reads ∙ none in cc)
one_due job good answer refusal text now after one other bytes others (answered reads held read a) (alone none b) = absurd (let clash : true ≡ false = sym reads ∙ none in cc)
one_due job good answer refusal text now after one other bytes others (refused reads held read a) (alone none b) = absurd (let clash : true ≡ false = sym reads ∙ none in cc)
one_due job good answer refusal text now after one other bytes others (answered reads held read a) (answered reads' held' read' b) =
    answer text one other bytes others (subst (λ (t : List ℕ). job.answers t one bytes) held a) (subst (λ (t : List ℕ). job.answers t other others) held' b)
one_due job good answer refusal text now after one other bytes others (answered reads held read a) (refused reads' held' read' b) =
    absurd (good.apart text one bytes b.refusal (subst (λ (t : List ℕ). job.answers t one bytes) held a) (subst (λ (t : List ℕ). job.refuses t b.refusal) held' b.refused))
one_due job good answer refusal text now after one other bytes others (refused reads held read a) (answered reads' held' read' b) =
    absurd (good.apart text other others a.refusal (subst (λ (t : List ℕ). job.answers t other others) held' b) (subst (λ (t : List ℕ). job.refuses t a.refusal) held a.refused))
one_due job good answer refusal text now after one other bytes others (refused reads held read a) (refused reads' held' read' b) =
    let same : a.refusal ≡ b.refusal = refusal text a.refusal b.refusal (subst (λ (t : List ℕ). job.refuses t a.refusal) held a.refused) (subst (λ (t : List ℕ). job.refuses t b.refusal) held' b.refused) in
    (a.ends ∙ sym b.ends, a.printed ∙ (ap refusal_bytes same ∙ sym b.printed))

one_usage : (status : Status) → OneAnswer (usage_job status)
unfolding OneAnswer
one_usage status text one other bytes others p q = (p.0 ∙ sym q.0, p.1 ∙ sym q.1)

pub one_is_due : OneProgram → OneRefusal → NotBoth → OneRunIsOne → OneSummary → (command : Option Command) (text : List ℕ) (now after : Option (List ℕ)) (one other : Status) (bytes others : List ℕ)
    → IsDue (job_of command) (Some text) now one bytes → IsDue (job_of command) (Some text) after other others → (one ≡ other) × (bytes ≡ others)
unfolding OneAnswer OneRefused
one_is_due programs refusals apart runs summaries None = one_due (usage_job Usage) (good_usage Usage tt) (one_usage Usage) (λ text one other p q. absurd p)
one_is_due programs refusals apart runs summaries (Some Help) = one_due (usage_job Done) (good_usage Done tt) (one_usage Done) (λ text one other p q. absurd p)
one_is_due programs refusals apart runs summaries (Some (Run seed bound)) = one_due (run_job seed bound) (good_run apart seed bound) (one_run programs runs seed bound) refusals
one_is_due programs refusals apart runs summaries (Some (Campaign first count bound workers)) =
    one_due (campaign_job first count bound) (good_campaign apart first count bound) (one_campaign programs summaries first count bound) refusals
one_is_due programs refusals apart runs summaries (Some (Trial number size first count bound workers)) =
    one_due (trial_job number size first count bound) (good_trial number size first count bound) (λ text. one_campaign programs summaries first count bound (ring_bytes number size)) (λ text one other p q. absurd p)
