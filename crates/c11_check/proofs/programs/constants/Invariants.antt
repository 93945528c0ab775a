use Rattle.std.proofs.Common.{◌≡◌, drop}
use Rattle.c11_check.specs.Programs.{keep, starts_faults}
use Rattle.c11_check.proofs.programs.constants.Given as goal

abbrev pub invariant-loop-constant : goal.invariant-loop-constant
invariant-loop-constant l = keep l.first (starts_faults l.scopes (drop l.constant-index l.constants)) ≡ keep l.fn.first (starts_faults l.scopes l.constants)
