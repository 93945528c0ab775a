use Rattle.std.proofs.Common.{◌≡◌, drop}
use Rattle.c11_lower.specs.Lowered.{passed_all, passed_arms}
use Rattle.c11_lower.proofs.passing.+passing.Given as goal

abbrev pub invariant-pass_all-loop-stmt : goal.invariant-pass_all-loop-stmt
invariant-pass_all-loop-stmt l = passed_all (drop l.stmt-index l.stmts) l.scopes ≡ passed_all l.stmts l.fn.scopes

abbrev pub invariant-pass_arms-loop-arm : goal.invariant-pass_arms-loop-arm
invariant-pass_arms-loop-arm l = passed_arms (drop l.arm-index l.arms) l.scopes ≡ passed_arms l.arms l.fn.scopes
