use Rattle.std.proofs.Common.{◌≡◌, ◌++◌, drop}
use Rattle.c11_flat.specs.Code.{types_of}
use Rattle.c11_lower.proofs.functions.types_of.Given as goal

abbrev pub invariant-loop-param : goal.invariant-loop-param
invariant-loop-param l = l.types.items ++ types_of (drop l.param-index l.params) ≡ types_of l.params
