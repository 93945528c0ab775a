use Rattle.std.proofs.Common.{◌≡◌, ◌+◌, ◌≤◌, [], length}
use Rattle.c11_session.specs.Sessions.{with_numbers_below}
use Rattle.c11_session.proofs.Fresh.{FreshFrom}
use Rattle.c11_session.proofs.opening.deal.Given as goal

abbrev pub invariant-loop-number : goal.invariant-loop-number
invariant-loop-number l = record {
  low : l.number ≤ 15;
  table : l.chair.table_id ≡ l.fn.chair.table_id;
  view : l.chair.me ≡ (with_numbers_below l.terms (l.number + 1), []);
  count : length l.seats.items + l.number ≡ 15;
  dealt : FreshFrom record { table = l.board.table_id; terms = l.terms } (l.number + 1) l.seats.items;
}

abbrev pub decreases-loop-number : goal.decreases-loop-number
decreases-loop-number l = l.number
