-- A program has one summary at most of the same seeds with the same bound, and its counts sum to the number of seeds.
use Rattle.std.proofs.Common.{◌≡◌, ℕ, ◌+◌, zero, suc, List, [], ◌∷◌, length, All, refl, ap, sym, subst, ◌∙◌}
use Rattle.std.proofs.lemmas.List.Elements.{All-head, All-tail}
use Rattle.c11_report.specs.declared.summary.Summary.{Summary}
use Rattle.c11_events.specs.declared.entry.Entry.{Entry}
use Rattle.c11_events.specs.declared.verdict.Verdict.{Verdict}
use Rattle.c11_events.specs.Offered.{Offered}
use Rattle.c11_machine.specs.Runs.{Program, OneRun}
use Rattle.c11_run.specs.Laws.{OneRunIsOne}
use Rattle.c11_tally.specs.Laws.{KeptIsOne, RunsAreCounted, OutputsAreCounted}
use Rattle.c11_tally.specs.Tallies.{Ran, Kept, StandsFor, kept_in, cut, runs, counted}
use Rattle.c11_run.specs.Output.{output_of}
use Rattle.c11_campaign.specs.Summaries.{IsRan, IsSummary, seeds_from}
use Rattle.c11_campaign.proofs.Ordering.{seeds}

abbrev ran : ℕ → Verdict → List ℕ → Ran
ran seed verdict output = record { seed = seed; verdict = verdict; output = output }

abbrev summary : ℕ → ℕ → ℕ → Kept → Summary
summary first count steps kept = record { first = first; count = count; steps = steps; tallies = kept.tallies; outputs = kept.outputs }

-- the run of a seed is one
one_ran : OneRunIsOne → (program : Program) (bound : ℕ) (a b : Ran) → a.seed ≡ b.seed → IsRan program bound a → IsRan program bound b → a ≡ b
one_ran one program bound a b same p q =
    let run = subst (λ (s : ℕ). OneRun Offered program s bound p.entries a.verdict) same p.run in
    let both = one program b.seed bound p.entries q.entries a.verdict b.verdict run q.run in
    let verdict_is : a.verdict ≡ b.verdict = both.1 in
    let output_is : a.output ≡ b.output = p.output ∙ (ap (λ (es : List Entry). cut (output_of es)) both.0 ∙ sym q.output) in
    ap (λ (s : ℕ). ran s a.verdict a.output) same ∙ (ap (λ (v : Verdict). ran b.seed v a.output) verdict_is ∙ ap (λ (o : List ℕ). ran b.seed b.verdict o) output_is)

one_list : OneRunIsOne → (program : Program) (bound : ℕ) (xs ys : List Ran) → seeds xs ≡ seeds ys → All (IsRan program bound) xs → All (IsRan program bound) ys → xs ≡ ys
one_list one program bound [] [] same p q = refl
one_list one program bound [] (y ∷ ys) same p q = absurd (let clash : [] ≡ y.seed ∷ seeds ys = same in cc)
one_list one program bound (x ∷ xs) [] same p q = absurd (let clash : x.seed ∷ seeds xs ≡ [] = same in cc)
one_list one program bound (x ∷ xs) (y ∷ ys) same p q =
    let head : x.seed ≡ y.seed = cc in
    let tail : seeds xs ≡ seeds ys = cc in
    let first : x ≡ y = one_ran one program bound x y head (All-head (IsRan program bound) x xs p) (All-head (IsRan program bound) y ys q) in
    let rest : xs ≡ ys = one_list one program bound xs ys tail (All-tail (IsRan program bound) x xs p) (All-tail (IsRan program bound) y ys q) in
    ap (λ (r : Ran). r ∷ xs) first ∙ ap (λ (rs : List Ran). y ∷ rs) rest

pub one_summary : OneRunIsOne → KeptIsOne → (program : Program) (first count bound : ℕ) (one other : Summary) → IsSummary program first count bound one → IsSummary program first count bound other → one ≡ other
one_summary one kept program first count bound s t p q =
    let same : p.rans ≡ q.rans = one_list one program bound p.rans q.rans (p.seeds ∙ sym q.seeds) p.runs q.runs in
    let told : kept_in s ≡ kept_in t = kept q.rans (kept_in s) (kept_in t) (subst (λ (rs : List Ran). StandsFor (kept_in s) rs) same p.counts) q.counts in
    let first_is : s.first ≡ t.first = p.first_is ∙ sym q.first_is in
    let count_is : s.count ≡ t.count = p.count_is ∙ sym q.count_is in
    let bound_is : s.steps ≡ t.steps = p.bound_is ∙ sym q.bound_is in
    ap (λ (n : ℕ). summary n s.count s.steps (kept_in s)) first_is ∙ (ap (λ (n : ℕ). summary t.first n s.steps (kept_in s)) count_is
    ∙ (ap (λ (n : ℕ). summary t.first t.count n (kept_in s)) bound_is ∙ ap (λ (k : Kept). summary t.first t.count t.steps k) told))

length_seeds : (rans : List Ran) → length (seeds rans) ≡ length rans
length_seeds [] = refl
length_seeds (ran ∷ rans) = ap suc (length_seeds rans)

length_from : (first count : ℕ) → length (seeds_from first count) ≡ count
length_from first zero = refl
length_from first (suc count) = ap suc (length_from (first + 1) count)

pub counts_sum_up : RunsAreCounted → OutputsAreCounted → (program : Program) (first count bound : ℕ) (summary : Summary) → IsSummary program first count bound summary
    → (runs summary.tallies ≡ count) × (counted summary.outputs ≡ count)
counts_sum_up runs_counted outputs_counted program first count bound summary p =
    let many : length p.rans ≡ count = sym (length_seeds p.rans) ∙ (ap length p.seeds ∙ length_from first count) in
    (runs_counted p.rans summary.tallies p.counts.tallies ∙ many, outputs_counted p.rans summary.outputs p.counts.outputs ∙ many)
