use Rattle.std.proofs.Common.{◌≡◌, ◌+◌, drop}
use Rattle.c11_lower.specs.Lowered.{strip_of_all, passed_all, passed_arms, arms_size}
use Rattle.c11_lower.proofs.measuring.+measuring.Given as goal

abbrev pub invariant-size_of_all-loop-stmt : goal.invariant-size_of_all-loop-stmt
invariant-size_of_all-loop-stmt l = record {
  size : l.size + (strip_of_all (drop l.stmt-index l.stmts) l.scopes).size ≡ (strip_of_all l.stmts l.fn.scopes).size;
  passed : passed_all (drop l.stmt-index l.stmts) l.scopes ≡ passed_all l.stmts l.fn.scopes;
}

abbrev pub invariant-arms_size-loop-arm : goal.invariant-arms_size-loop-arm
invariant-arms_size-loop-arm l = record {
  size : l.size + arms_size (drop l.arm-index l.arms) l.scopes ≡ arms_size l.arms l.fn.scopes;
  passed : passed_arms (drop l.arm-index l.arms) l.scopes ≡ passed_arms l.arms l.fn.scopes;
}
