use Rattle.std.proofs.Common.{ℕ, ◌<◌}
use Rattle.c11_events.specs.EventOf.{events_of}
use Rattle.c11_events.specs.Threads.{IsLive}
use Rattle.c11_memory.specs.Marks.{IsStuck}
use Rattle.c11_memory.proofs.marks.all_stuck.Given as goal

abbrev pub invariant-loop-thread : goal.invariant-loop-thread
invariant-loop-thread l = (k : ℕ) → k < l.thread → IsLive (events_of l.history.entries) k → IsStuck (events_of l.history.entries) l.marks k
