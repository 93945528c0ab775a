use Rattle.std.proofs.Common.{◌≡◌, length}
use Rattle.c11_parts.proofs.closure.grow_all.Given as goal

abbrev pub invariant-loop-place : goal.invariant-loop-place
invariant-loop-place l = record {
  cells : length l.graph.lists ≡ 1;
  threads : l.graph.threads ≡ 4;
  size : l.graph.size ≡ 20;
  stores : length l.graph.numbers ≡ l.place;
}
