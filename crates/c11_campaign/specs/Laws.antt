-- The laws of summaries.
use Rattle.std.specs.Prelude.{ℕ, ◌≡◌}
use Rattle.c11_machine.specs.Runs.{Program}
use Rattle.c11_report.specs.declared.summary.Summary.{Summary}
use Rattle.c11_tally.specs.Tallies.{runs, counted}
use Rattle.c11_campaign.specs.Summaries.{IsSummary}

-- A program has one summary at most of the same seeds with the same bound.
abbrev pub OneSummary : Type 0
OneSummary = (program : Program) (first count bound : ℕ) (one other : Summary) → IsSummary program first count bound one
    → IsSummary program first count bound other → one ≡ other

-- The counts of the seven words sum to the number of seeds, and so do those of the outputs.
abbrev pub CountsSumUp : Type 0
CountsSumUp = (program : Program) (first count bound : ℕ) (summary : Summary) → IsSummary program first count bound summary
    → (runs summary.tallies ≡ count) × (counted summary.outputs ≡ count)
