-- Threads that wait, and how an execution stands.
use Rattle.std.specs.Prelude.{ℕ, ◌≡◌, Some, None, IsSome, slice_get, slice_set}
use Rattle.c11_events.specs.declared.op.Ask.{Ask}
use Rattle.c11_events.specs.declared.verdict.Verdict.TheVariants.{Deadlock}
use Rattle.c11_events.specs.EventOf.{events_of}
use Rattle.c11_events.specs.Threads.{IsLive, blocked_by}
use Rattle.c11_events.specs.Verdicts.{StepVerdict}
use Rattle.c11_memory.specs.Execution.{Execution}

-- the thread is marked with an operation that is still blocked
pub record IsMarkedBlocked (m : Execution) (thread : ℕ) : Type 0 where
  pub ask : Ask
  pub mark : slice_get m.marks thread ≡ Some (Some ask)
  pub blocked : IsSome (blocked_by (events_of m.history) thread ask.op)

-- each live thread is
abbrev pub AllAreStuck : Execution → Type 0
AllAreStuck m = (thread : ℕ) → IsLive (events_of m.history) thread → IsMarkedBlocked m thread

-- the same execution, with the thread marked to wait with this operation
abbrev pub marked : Execution → ℕ → Ask → Execution
marked m thread ask = record m { marks = slice_set m.marks thread (Some ask) }

-- the kept verdict: what the last step or the bound gives, else a deadlock that a mark showed
pub data IsStanding (m : Execution) : Type 0 where
  by_steps : StepVerdict m.bound m.history m.verdict → IsStanding m
  by_marks : StepVerdict m.bound m.history None → AllAreStuck m → m.verdict ≡ Some Deadlock → IsStanding m
