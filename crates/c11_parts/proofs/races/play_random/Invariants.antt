use Rattle.std.proofs.Common.{◌≡◌, length}
use Rattle.c11_parts.proofs.races.play_random.Given as goal

abbrev pub invariant-loop-number : goal.invariant-loop-number
invariant-loop-number l = record {
  threads : l.shadow.threads ≡ 4;
  cells : length l.shadow.cells ≡ 2;
}
