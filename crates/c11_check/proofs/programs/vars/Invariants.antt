use Rattle.std.proofs.Common.{drop}
use Rattle.c11_check.specs.Programs.{vars_walk}
use Rattle.c11_check.proofs.Walking.{Leads}
use Rattle.c11_check.proofs.programs.vars.Given as goal

abbrev pub invariant-loop-declared : goal.invariant-loop-declared
invariant-loop-declared l = Leads l.first (vars_walk l.kind (drop l.declared-index l.vars) l.scopes) l.fn.first (vars_walk l.kind l.vars l.fn.scopes)
