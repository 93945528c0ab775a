use Rattle.std.proofs.Common.{◌≡◌, ◌+◌, drop}
use Rattle.c11_lexer.specs.Pieces.{is_word}
use Rattle.c11_lexer.specs.Pieces.{run}
use Rattle.c11_lexer.proofs.bytes.word_run.Given as goal

abbrev pub invariant-loop-at : goal.invariant-loop-at
invariant-loop-at l = l.at + run is_word (drop l.at l.bytes) ≡ run is_word l.bytes
