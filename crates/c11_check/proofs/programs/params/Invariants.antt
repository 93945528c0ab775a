use Rattle.std.proofs.Common.{drop}
use Rattle.c11_check.specs.Programs.{params_walk}
use Rattle.c11_check.proofs.Walking.{Leads}
use Rattle.c11_check.proofs.programs.params.Given as goal

abbrev pub invariant-loop-declared : goal.invariant-loop-declared
invariant-loop-declared l = Leads l.first (params_walk (drop l.declared-index l.params) l.scopes) l.fn.first (params_walk l.params l.fn.scopes)
