use Rattle.std.proofs.Common.{◌≡◌, ◌+◌, drop}
use Rattle.c11_lexer.specs.Directives.{is_inside}
use Rattle.c11_lexer.specs.Pieces.{run}
use Rattle.c11_lexer.proofs.directive.inside_run.Given as goal

abbrev pub invariant-loop-at : goal.invariant-loop-at
invariant-loop-at l = l.at + run is_inside (drop l.at l.bytes) ≡ run is_inside l.bytes
