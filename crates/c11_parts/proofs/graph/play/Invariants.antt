use Rattle.std.proofs.Common.{◌≡◌, length}
use Rattle.c11_parts.proofs.graph.play.Given as goal

abbrev pub invariant-loop-line : goal.invariant-loop-line
invariant-loop-line l = record {
  cells : length l.graph.lists ≡ 1;
  threads : l.graph.threads ≡ 4;
  size : l.graph.size ≡ 20;
  stores : length l.graph.numbers ≡ l.count;
}
