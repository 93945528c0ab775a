use Rattle.std.proofs.Common.{◌≡◌}
use Rattle.c11_session.specs.Places.{StillWaits}
use Rattle.c11_session.proofs.waiting.await_turn.Given as goal

abbrev pub invariant-loop : goal.invariant-loop
invariant-loop g l = record {
  table : l.chair.table_id ≡ l.fn.chair.table_id;
  waits : StillWaits l.fn.chair.me l.chair.me;
}
