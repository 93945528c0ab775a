-- What a campaign counts: one run of each seed, by the verdict, and the outputs of the runs.
use Rattle.std.specs.Prelude.{ℕ, zero, suc, ◌≡◌, ◌+◌, List, [], ◌∷◌, map, All}
use Rattle.c11_events.specs.declared.entry.Entry.{Entry}
use Rattle.c11_events.specs.Offered.{Offered}
use Rattle.c11_machine.specs.Runs.{Program, OneRun}
use Rattle.c11_run.specs.Output.{output_of}
use Rattle.c11_report.specs.declared.summary.Summary.{Summary}
use Rattle.c11_tally.specs.Tallies.{Ran, StandsFor, kept_in, cut}

-- the seeds from the first on, so many
abbrev pub seeds_from : ℕ → ℕ → List ℕ
seeds_from first zero = []
seeds_from first (suc count) = first ∷ seeds_from (first + 1) count

-- the one run of the program with this seed and the bound ended with this verdict, and wrote this, of which the first 256 bytes count
pub record IsRan (program : Program) (bound : ℕ) (ran : Ran) : Type 0 where
  pub entries : List Entry
  pub run : OneRun Offered program ran.seed bound entries ran.verdict
  pub output : ran.output ≡ cut (output_of entries)

-- The summary of the one runs of the program with the seeds from the first on: how many ended with each verdict and the least seed of
-- these, and what was printed, in the order of the bytes, with how many runs printed it.
pub record IsSummary (program : Program) (first count bound : ℕ) (summary : Summary) : Type 0 where
  pub rans : List Ran
  pub seeds : map (λ (ran : Ran). ran.seed) rans ≡ seeds_from first count
  pub runs : All (IsRan program bound) rans
  pub counts : StandsFor (kept_in summary) rans
  pub first_is : summary.first ≡ first
  pub count_is : summary.count ≡ count
  pub bound_is : summary.steps ≡ bound
