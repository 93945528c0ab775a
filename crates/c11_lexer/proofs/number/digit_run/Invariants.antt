use Rattle.std.proofs.Common.{◌≡◌, ◌+◌, drop}
use Rattle.c11_lexer.specs.Numbers.{is_digit_of}
use Rattle.c11_lexer.specs.Pieces.{run}
use Rattle.c11_lexer.proofs.number.digit_run.Given as goal

abbrev pub invariant-loop-at : goal.invariant-loop-at
invariant-loop-at l = l.at + run (is_digit_of l.base) (drop l.at l.bytes) ≡ run (is_digit_of l.base) l.bytes
