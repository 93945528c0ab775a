use Rattle.std.proofs.Common.{◌≡◌}
use Rattle.std.specs.List.{All}
use Rattle.c11_session.specs.declared.rule.Stage.TheVariants.{Idle}
use Rattle.c11_session.proofs.Gathering.{Gathered}
use Rattle.c11_session.proofs.taking.gather_all.Given as goal

abbrev pub invariant-loop-seat : goal.invariant-loop-seat
invariant-loop-seat l = record {
  table : l.chair.table_id ≡ l.board.table_id;
  idle : l.chair.me.0.stage ≡ Idle;
  left : All (λ s. s.table ≡ l.board.table_id) l.seats.items;
  gathered : Gathered l.fn.seats.items l.seats.items l.chair.me.0;
}

abbrev pub decreases-loop-seat : goal.decreases-loop-seat
decreases-loop-seat l = goal.left-loop-seat l
