use Rattle.std.proofs.Common.{drop}
use Rattle.c11_check.specs.Statements.{locals_walk}
use Rattle.c11_check.proofs.Walking.{Leads}
use Rattle.c11_check.proofs.statements.locals.Given as goal

abbrev pub invariant-loop-declared : goal.invariant-loop-declared
invariant-loop-declared l = Leads l.first (locals_walk l.ctype (drop l.declared-index l.locals) l.scopes) l.fn.first (locals_walk l.ctype l.locals l.fn.scopes)
