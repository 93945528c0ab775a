use Rattle.std.proofs.Common.{◌≡◌, Option, drop}
use Rattle.c11_ast.specs.declared.stmt.Stmt.{Stmt}
use Rattle.c11_lower.specs.Lowered.{strip_of_all, passed_all, passed_arms, arms_strip, with_strip, EndsAt}
use Rattle.c11_lower.proofs.emitting.+emitting.Given as goal

abbrev pub invariant-emit_all-loop-stmt : goal.invariant-emit_all-loop-stmt
invariant-emit_all-loop-stmt l = record {
  code : with_strip l.code.items (strip_of_all (drop l.stmt-index l.stmts) l.scopes) l.breaks l.continues ≡ with_strip l.fn.code.items (strip_of_all l.stmts l.fn.scopes) l.breaks l.continues;
  passed : passed_all (drop l.stmt-index l.stmts) l.scopes ≡ passed_all l.stmts l.fn.scopes;
}

abbrev pub invariant-emit_arms-loop-arm : goal.invariant-emit_arms-loop-arm
invariant-emit_arms-loop-arm l = record {
  end : (otherwise : Option Stmt) → EndsAt l.end l.fn.code.items l.arms otherwise l.fn.scopes → EndsAt l.end l.code.items (drop l.arm-index l.arms) otherwise l.scopes;
  code : (otherwise : Option Stmt) → EndsAt l.end l.fn.code.items l.arms otherwise l.fn.scopes
      → with_strip l.code.items (arms_strip (drop l.arm-index l.arms) otherwise l.scopes) l.breaks l.continues ≡ with_strip l.fn.code.items (arms_strip l.arms otherwise l.fn.scopes) l.breaks l.continues;
  passed : passed_arms (drop l.arm-index l.arms) l.scopes ≡ passed_arms l.arms l.fn.scopes;
}
