use Rattle.std.proofs.Common.{sym, arith}
use Rattle.std.proofs.lemmas.Grind.{common_steps}
use Rattle.c11_lexer.specs.Directives.{Skips, SkipsTo, first_run, after_run, is_inside, IsWord, IsHeader, Included, Defined}
use Rattle.c11_lexer.specs.Directives as d
use Rattle.c11_lexer.proofs.Directives as law
use Rattle.c11_lexer.proofs.directive.skip.Goals as goal

pub spaces-init : goal.spaces-init
spaces-init c = (d.Skips.done, omega arith)

pub returns-then-not-is_space-clause-rest : goal.returns-then-not-is_space-clause-rest
returns-then-not-is_space-clause-rest c =
    record { skips = c.spaces.invariant.0; stops = law.stops_at _ _ _ c.in_ok-piece.ensures (sym c.if-not-is_space.ensures) }

pub spaces-preserved : goal.spaces-preserved
spaces-preserved c = rw c.split_at.ensures.back (law.skip_more _ _ _ _ c.spaces.invariant.0 c.in_ok-piece.ensures (sym c.if-not-is_space.ensures), grind (arith, common_steps))

pub returns-clause-rest : goal.returns-clause-rest
returns-clause-rest c = record { skips = c.spaces.invariant.0; stops = law.stops_empty _ (grind (arith, common_steps)) }
