use Rattle.std.proofs.Common.{◌<◌, ◌≤◌, length}
use Rattle.c11_events.specs.EventOf.{events_of}
use Rattle.c11_events.specs.Offered.{IsRisingList}
use Rattle.c11_run.specs.Going.{GoesOn}
use Rattle.c11_run.proofs.team.Team.enabled.Given as goal

abbrev pub invariant-loop-number : goal.invariant-loop-number
invariant-loop-number l = record {
  few : length l.enabled.items ≤ l.number;
  all : IsRisingList (λ u. (u < l.number) × GoesOn (events_of l.memory.history) l.self.members.items u) l.enabled.items;
}
