use Rattle.std.proofs.Common.{◌≤◌, length}
use Rattle.c11_lexer.specs.Directives.{Skips}
use Rattle.c11_lexer.proofs.directive.skip.Given as goal

abbrev pub invariant-spaces : goal.invariant-spaces
invariant-spaces l = Skips l.line l.rest × (length l.rest ≤ length l.line)

abbrev pub decreases-spaces : goal.decreases-spaces
decreases-spaces l = length l.rest
