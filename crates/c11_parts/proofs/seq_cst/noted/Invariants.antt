use Rattle.std.proofs.Common.{◌≡◌}
use Rattle.c11_scorder.specs.Tables.{cells_of, threads_of}
use Rattle.c11_parts.proofs.seq_cst.noted.Given as goal

abbrev pub invariant-loop-place : goal.invariant-loop-place
invariant-loop-place l = record {
  room : l.order.room ≡ 32;
  noted : l.order.noted ≡ l.place;
  cells : cells_of l.order ≡ 2;
  threads : threads_of l.order ≡ 3;
}
