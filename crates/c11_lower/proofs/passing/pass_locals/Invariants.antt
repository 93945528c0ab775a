use Rattle.std.proofs.Common.{◌≡◌, drop}
use Rattle.c11_lower.specs.Lowered.{passed_locals}
use Rattle.c11_lower.proofs.passing.pass_locals.Given as goal

abbrev pub invariant-loop-local : goal.invariant-loop-local
invariant-loop-local l = passed_locals l.ctype (drop l.local-index l.locals) l.scopes ≡ passed_locals l.ctype l.locals l.fn.scopes
