use Rattle.std.proofs.Common.{◌≡◌, length}
use Rattle.c11_shadow.specs.Words.{HasRoom}
use Rattle.c11_parts.proofs.shadow.play.Given as goal

abbrev pub invariant-loop-line : goal.invariant-loop-line
invariant-loop-line l = record {
  threads : l.shadow.threads ≡ 4;
  cells : length l.shadow.cells ≡ 1;
  room : HasRoom l.shadow 0;
}
