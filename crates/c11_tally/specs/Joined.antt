-- Two tallies put together.
use Rattle.std.specs.Prelude.{ℕ, ◌+◌, Option, Some, None, min}
use Rattle.c11_events.specs.declared.verdict.Verdict.{Verdict}
use Rattle.c11_events.specs.declared.verdict.Verdict.TheVariants as verdict
use Rattle.c11_report.specs.declared.tally.Tally.{Tally}
use Rattle.c11_report.specs.declared.tally.Tallies.{Tallies}

-- the smaller one, where there are two
abbrev pub least_of : Option ℕ → Option ℕ → Option ℕ
least_of None b = b
least_of (Some a) None = Some a
least_of (Some a) (Some b) = Some (min a b)

-- the counts added, and the smaller least seed
abbrev pub joined : Tally → Tally → Tally
joined a b = record { count = a.count + b.count; least = least_of a.least b.least }

-- the same for each word
abbrev pub joined_tallies : Tallies → Tallies → Tallies
joined_tallies a b = record {
  done = joined a.done b.done;
  bound = joined a.bound b.bound;
  race = joined a.race b.race;
  assert_ = joined a.assert_ b.assert_;
  fault = joined a.fault b.fault;
  local = joined a.local b.local;
  deadlock = joined a.deadlock b.deadlock;
}

-- no run
abbrev pub no_tally : Tally
no_tally = record { count = 0; least = None }

abbrev pub no_tallies : Tallies
no_tallies = record { done = no_tally; bound = no_tally; race = no_tally; assert_ = no_tally; fault = no_tally; local = no_tally; deadlock = no_tally }

-- one more run from this seed
abbrev pub with_seed : Tally → ℕ → Tally
with_seed tally seed = joined tally (record { count = 1; least = Some seed })

-- one more run from this seed, which ended so
abbrev pub with_run : Tallies → ℕ → Verdict → Tallies
with_run tallies seed verdict.Done = record tallies { done = with_seed tallies.done seed }
with_run tallies seed verdict.Bound = record tallies { bound = with_seed tallies.bound seed }
with_run tallies seed (verdict.Race first second cell) = record tallies { race = with_seed tallies.race seed }
with_run tallies seed verdict.Assert = record tallies { assert_ = with_seed tallies.assert_ seed }
with_run tallies seed (verdict.Fault kind) = record tallies { fault = with_seed tallies.fault seed }
with_run tallies seed verdict.Local = record tallies { local = with_seed tallies.local seed }
with_run tallies seed verdict.Deadlock = record tallies { deadlock = with_seed tallies.deadlock seed }
