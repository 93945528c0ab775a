use Rattle.std.proofs.Common.{◌≡◌, drop}
use Rattle.c11_check.specs.Tables.{declare_vars, together}
use Rattle.c11_check.proofs.tables.declare_vars.Given as goal

abbrev pub invariant-loop-var : goal.invariant-loop-var
invariant-loop-var l = declare_vars l.kind (drop l.var-index l.vars) (together l.scopes l.tables) ≡ declare_vars l.kind l.vars (together l.fn.scopes l.fn.tables)
