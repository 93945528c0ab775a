-- From what all workers tallied to the summary.
use Rattle.std.proofs.Common.{◌≡◌, ℕ, Result, Ok, Err, IfOk, ap, sym, subst, ◌∙◌}
use Rattle.c11_num.specs.declared.memory.NoMemory.{NoMemory}
use Rattle.std.proofs.lemmas.List.Sorted.{All-permutation}
use Rattle.c11_report.specs.declared.summary.Summary.{Summary}
use Rattle.c11_machine.specs.Runs.{Program}
use Rattle.c11_claims.specs.Claims.{times}
use Rattle.c11_tally.specs.Laws.{OrderIsFree}
use Rattle.c11_tally.specs.Tallies.{Kept, StandsFor, kept_in}
use Rattle.c11_campaign.specs.Summaries.{IsRan, IsSummary, seeds_from}
use Rattle.c11_campaign.specs.Workers.{HasRunAll}
use Rattle.c11_campaign.proofs.Numbers.{seeds_of_numbers}
use Rattle.c11_campaign.proofs.Ordering.{in_order, seeds}

pub sums_up : OrderIsFree → (program : Program) (first count bound : ℕ) (kept : Kept) → HasRunAll program first count bound kept → (summary : Summary)
    → kept_in summary ≡ kept → summary.first ≡ first → summary.count ≡ count → summary.steps ≡ bound → IsSummary program first count bound summary
sums_up free program first count bound kept h summary is first_is count_is bound_is =
    let same : (s : ℕ) → times s (seeds h.run.rans) ≡ times s (seeds_from first count) =
    λ s. ap (times s) h.run.seeds ∙ seeds_of_numbers first count h.numbers h.once s in
    let o = in_order first count h.run.rans same in
    record {
      rans = o.ordered;
      seeds = o.seeds_are;
      runs = All-permutation (IsRan program bound) h.run.rans o.ordered o.permutes h.run.each;
      counts = subst (λ (k : Kept). StandsFor k o.ordered) (sym is) (free h.run.rans o.ordered kept o.permutes h.run.stands);
      first_is = first_is;
      count_is = count_is;
      bound_is = bound_is;
    }

-- the same of what a call answers
pub sums_up_if : OrderIsFree → (program : Program) (first count bound : ℕ) (kept : Kept) → HasRunAll program first count bound kept → (answer : Result Summary NoMemory)
    → IfOk answer (λ summary. (summary.first ≡ first) × (summary.count ≡ count) × (summary.steps ≡ bound)) → IfOk answer (λ summary. kept_in summary ≡ kept) → IfOk answer (IsSummary program first count bound)
sums_up_if free program first count bound kept h (Ok summary) head is = sums_up free program first count bound kept h summary is head.0 head.1 head.2
sums_up_if free program first count bound kept h (Err why) head is = tt
