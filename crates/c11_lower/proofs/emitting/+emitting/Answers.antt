use Rattle.std.proofs.Common.{rules, arith, ◌≡◌, ℕ, ◌+◌, List, [], ◌∷◌, ◌++◌, length, take, ap, ◌∙◌, subst, Option}
use Rattle.c11_ast.specs.declared.stmt.Stmt.{Stmt}
use Rattle.c11_ast.specs.declared.stmt.Arm.{Arm}
use Rattle.c11_check.specs.Scopes.{Scope, entered}
use Rattle.c11_meaning.specs.Objects.{one}
use Rattle.c11_flat.specs.declared.instr.Instr.{Instr}
use Rattle.c11_flat.specs.declared.instr.Instr.TheVariants as i
use Rattle.c11_flat.specs.Pieces.{piece_of}
use Rattle.c11_flat.specs.Code.{optional_piece, optional_alone}
use Rattle.c11_lower.specs.Lowered.{strip_of, optional_strip, with_strip, opening, turning_strip, optional_size, alone_size, passed, passed_all, passed_arms, passed_optional, arms_strip, EndsAt}
use Rattle.c11_lower.proofs.Walks.{passed_all_kept, arms_kept, optional_kept}
use Rattle.c11_lower.proofs.Sizes.{gone_back}
use Rattle.c11_lower.proofs.Behind.{stmt_passed, arm_passed}
use Rattle.c11_lower.proofs.Codes.{Wrote, stmt_written, arm_ends, arm_put, if_put, turning_put, while_put, do_put, for_written}
use Rattle.c11_lower.proofs.emitting.+emitting.Goals as goal

pub emit_all-loop-stmt-preserved : goal.emit_all-loop-stmt-preserved
emit_all-loop-stmt-preserved t c =
    let x = c.stmt-item.result in
    let s = c.loop-stmt.scopes in
    let w : c.emit_stmt.new.code.items ≡ with_strip c.loop-stmt.code.items (strip_of x s) c.args.breaks c.args.continues = search rules in
    let is : c.pass.new.scopes ≡ passed x s = search rules in
    record {
      code = stmt_written c.args.stmts.now c.loop-stmt.stmt-index x s c.args.breaks c.args.continues c.loop-stmt.code.items c.loop-stmt-test.true c.stmt-item.is w is ∙ c.loop-stmt.invariant.code;
      passed = stmt_passed c.args.stmts.now c.loop-stmt.stmt-index x s c.loop-stmt-test.true c.stmt-item.is is ∙ c.loop-stmt.invariant.passed;
    }

pub emit_arms-loop-arm-preserved : goal.emit_arms-loop-arm-preserved
emit_arms-loop-arm-preserved t c =
    let x = c.arm-item.result in
    let scope = c.loop-arm.scopes in
    let xs = c.args.arms.now in
    let n = c.loop-arm.arm-index in
    let k = c.args.breaks in
    let l = c.args.continues in
    let mid : c.stmt_size.new.scopes ≡ scope = search rules in
    let is : c.pass.new.scopes ≡ passed x.body scope = search rules in
    let w : Wrote c.loop-arm.code.items (piece_of x.test scope).code c.emit_expr.new.code.items = search rules in
    let done : c.in_ok-done.done ≡ (strip_of x.body scope).size = search rules in
    let len : c.len.result ≡ length c.emit_expr.new.code.items = search rules in
    let sum : c.in_ok-plus.field-0 ≡ c.len.result + c.in_ok-done.done = search rules in
    let next : c.in_ok-next.next ≡ c.in_ok-plus.field-0 + 2 = search rules in
    let next_is : c.in_ok-next.next ≡ length c.emit_expr.new.code.items + c.in_ok-done.done + 2 = omega (arith, len, sum, next) in
    let v : c.put.new.code.items ≡ c.emit_expr.new.code.items ++ i.JumpIfZero c.in_ok-next.next ∷ [] = search rules in
    let u : c.emit_stmt.new.code.items ≡ with_strip c.put.new.code.items (strip_of x.body c.stmt_size.new.scopes) k l = search rules in
    let u' = u ∙ ap (λ (s : Scope). with_strip c.put.new.code.items (strip_of x.body s) k l) mid in
    let z : c.put-in-loop-arm.new.code.items ≡ c.emit_stmt.new.code.items ++ i.Jump c.args.end ∷ [] = search rules in
    record {
      end = λ o ends. arm_ends xs n x scope c.in_ok-next.next c.args.end c.in_ok-done.done k l c.loop-arm.code.items c.loop-arm-test.true c.arm-item.is w done next_is v u' z is o (c.loop-arm.invariant.end o ends);
      code = λ o ends. arm_put xs n x scope c.in_ok-next.next c.args.end c.in_ok-done.done k l c.loop-arm.code.items c.loop-arm-test.true c.arm-item.is w done next_is v u' z is o (c.loop-arm.invariant.end o ends) ∙ c.loop-arm.invariant.code o ends;
      passed = arm_passed xs n x scope c.loop-arm-test.true c.arm-item.is is ∙ c.loop-arm.invariant.passed;
    }

pub emit_do-returns-clause-code : goal.emit_do-returns-clause-code
emit_do-returns-clause-code t c =
    let scope = c.args.scopes.now in
    let body = c.args.body.now in
    let test = c.args.test.now in
    let done : c.in_ok-done.done ≡ (strip_of body scope).size = search rules in
    let tested : c.in_ok-tested.tested ≡ (piece_of test (passed body scope)).size = search rules in
    let top : c.in_ok-top.top ≡ length c.args.code.now.items + 1 = search rules in
    let behind : c.in_ok-behind.behind ≡ c.in_ok-top.top + c.in_ok-done.done = search rules in
    let sum : c.in_ok-plus.field-0 ≡ c.in_ok-behind.behind + c.in_ok-tested.tested = search rules in
    let end : c.in_ok-end.end ≡ c.in_ok-plus.field-0 + 1 = search rules in
    let end' = end ∙ ap (λ (m : ℕ). m + 1) sum in
    let w : c.put.new.code.items ≡ c.args.code.now.items ++ i.Turn c.args.line ∷ [] = search rules in
    let v : c.emit_stmt.new.code.items ≡ with_strip c.put.new.code.items (strip_of body scope) c.in_ok-end.end c.in_ok-behind.behind = search rules in
    let u : Wrote c.emit_stmt.new.code.items (piece_of test (passed body scope)).code c.emit_behind.new.code.items = search rules in
    let z : c.put-2.new.code.items ≡ c.emit_behind.new.code.items ++ i.TurnIf c.args.line c.in_ok-top.top ∷ [] = search rules in
    do_put c.args.line c.in_ok-top.top c.in_ok-done.done c.in_ok-tested.tested c.in_ok-behind.behind c.in_ok-end.end test body scope c.args.code.now.items done tested top behind end' w v u z

pub emit_turning-returns-clause-code : goal.emit_turning-returns-clause-code
emit_turning-returns-clause-code t c =
    let scope = c.args.scopes.now in
    let body = c.args.body.now in
    let mid = c.emit_body.new.scopes in
    let same : mid ≡ scope = search rules in
    let next_size : c.in_ok-next_size.next_size ≡ alone_size c.args.next.now scope = search rules in
    let test_size : c.in_ok-test_size.test_size ≡ optional_size c.args.test.now scope = search rules in
    let w : Wrote c.args.code.now.items (opening (strip_of body scope) c.in_ok-next_size.next_size c.in_ok-test_size.test_size) c.emit_body.new.code.items = search rules in
    let v : Wrote c.emit_body.new.code.items (optional_alone c.args.next.now mid).code c.emit_optional_alone.new.code.items = search rules in
    let instr : c.push_one.result ≡ i.Push one = search rules in
    let u : Wrote c.emit_optional_alone.new.code.items (optional_piece c.args.test.now c.push_one.result mid).code c.emit_optional.new.code.items = search rules in
    let u' = subst (λ (x : Instr). Wrote c.emit_optional_alone.new.code.items (optional_piece c.args.test.now x mid).code c.emit_optional.new.code.items) instr u in
    let z : c.put.new.code.items ≡ c.emit_optional.new.code.items ++ i.TurnIf c.args.line c.in_ok-top.top ∷ [] = search rules in
    let top : c.in_ok-top.top ≡ length c.args.code.now.items + 1 = search rules in
    turning_put c.args.line c.in_ok-top.top c.in_ok-next_size.next_size c.in_ok-test_size.test_size c.args.test.now c.args.next.now body scope mid c.args.code.now.items same next_size test_size w v u' z top

pub emit_while-returns-clause-code : goal.emit_while-returns-clause-code
emit_while-returns-clause-code t c =
    let scope = c.args.scopes.now in
    let body = c.args.body.now in
    let mid = c.emit_body.new.scopes in
    let same : mid ≡ scope = search rules in
    let test_size : c.in_ok-test_size.test_size ≡ (piece_of c.args.test.now scope).size = search rules in
    let w : Wrote c.args.code.now.items (opening (strip_of body scope) 0 c.in_ok-test_size.test_size) c.emit_body.new.code.items = search rules in
    let u : Wrote c.emit_body.new.code.items (piece_of c.args.test.now mid).code c.emit_expr.new.code.items = search rules in
    let z : c.put.new.code.items ≡ c.emit_expr.new.code.items ++ i.TurnIf c.args.line c.in_ok-top.top ∷ [] = search rules in
    let top : c.in_ok-top.top ≡ length c.args.code.now.items + 1 = search rules in
    while_put c.args.line c.in_ok-top.top c.in_ok-test_size.test_size c.args.test.now body scope mid c.args.code.now.items same test_size w u z top

pub emit_block-returns-clause-same : goal.emit_block-returns-clause-same
emit_block-returns-clause-same t c =
    let scope = c.args.scopes.now in
    let inner = c.emit_all.new.scopes in
    let is : inner ≡ passed_all c.args.block.now.items (entered scope) = search rules in
    let back : c.go_back.new.self ≡ record { names = take (length scope.names) inner.names; start = scope.start; counts = scope.counts } = search rules in
    gone_back scope inner (passed_all c.args.block.now.items (entered scope)) is (passed_all_kept c.args.block.now.items (entered scope)) back

pub emit_stmt-returns-in_ok-emit_turning-in-For-clause-code : goal.emit_stmt-returns-in_ok-emit_turning-in-For-clause-code
emit_stmt-returns-in_ok-emit_turning-in-For-clause-code t c =
    let scope = c.args.scopes.now in
    let w : c.emit_other-in-For.new.code.items ≡ with_strip c.args.code.now.items (optional_strip c.in-For.start (entered scope)) c.args.breaks c.args.continues = search rules in
    let mid : c.pass_optional.new.scopes ≡ passed_optional c.in-For.start (entered scope) = search rules in
    let v : c.emit_turning.new.code.items ≡ with_strip c.emit_other-in-For.new.code.items (turning_strip c.in-For.spot.line c.in-For.test c.in-For.next c.in-For.body c.pass_optional.new.scopes) 0 0 = search rules in
    for_written c.args.stmt.now c.in-For.spot c.in-For.start c.in-For.test c.in-For.next c.in-For.body scope c.args.breaks c.args.continues c.args.code.now.items c.in-For.is w mid v

pub emit_stmt-returns-in_ok-emit_turning-in-For-clause-same : goal.emit_stmt-returns-in_ok-emit_turning-in-For-clause-same
emit_stmt-returns-in_ok-emit_turning-in-For-clause-same t c =
    let scope = c.args.scopes.now in
    let inner = c.emit_turning.new.scopes in
    let mid = passed_optional c.in-For.start (entered scope) in
    let is : inner ≡ mid = search rules in
    let back : c.go_back-in-For.new.self ≡ record { names = take (length scope.names) inner.names; start = scope.start; counts = scope.counts } = search rules in
    gone_back scope inner mid is (optional_kept c.in-For.start (entered scope)) back

pub emit_stmt-returns-in_ok-emit_other-in-If-clause-code : goal.emit_stmt-returns-in_ok-emit_other-in-If-clause-code
emit_stmt-returns-in_ok-emit_other-in-If-clause-code t c =
    let scope = c.args.scopes.now in
    let code = c.args.code.now.items in
    let d = c.emit_arms.new.code.items in
    let k = c.args.breaks in
    let l = c.args.continues in
    let end = c.in_ok-end-in-If.end in
    let size : c.in_ok-stmt_size-in-If.field-0 ≡ (strip_of c.args.stmt.now scope).size = search rules in
    let len : c.len.result ≡ length code = search rules in
    let sum : end ≡ c.len.result + c.in_ok-stmt_size-in-If.field-0 = search rules in
    let end_is : end ≡ length code + c.in_ok-stmt_size-in-If.field-0 = sum ∙ ap (λ (n : ℕ). n + c.in_ok-stmt_size-in-If.field-0) len in
    let mid : c.emit_arms.new.scopes ≡ passed_arms c.in-If.arms scope = search rules in
    let at = c.mark-mark.new.scopes in
    let same : at ≡ scope = search rules in
    let slice : c.as_slice.result.now ≡ c.in-If.arms = search rules in
    let raw : (o : Option Stmt) → EndsAt end code c.as_slice.result.now o at
    → with_strip d (optional_strip o (passed_arms c.as_slice.result.now at)) k l ≡ with_strip code (arms_strip c.as_slice.result.now o at) k l = c.in_ok-emit_arms-in-If.ensures.code in
    let there = subst (λ (xs : List Arm). (o : Option Stmt) → EndsAt end code xs o at → with_strip d (optional_strip o (passed_arms xs at)) k l ≡ with_strip code (arms_strip xs o at) k l) slice raw in
    let first = subst (λ (s : Scope). (o : Option Stmt) → EndsAt end code c.in-If.arms o s → with_strip d (optional_strip o (passed_arms c.in-If.arms s)) k l ≡ with_strip code (arms_strip c.in-If.arms o s) k l) same there in
    let last : c.emit_other.new.code.items ≡ with_strip d (optional_strip c.in-If.otherwise c.emit_arms.new.scopes) k l = search rules in
    if_put c.args.stmt.now c.in-If.spot c.in-If.arms c.in-If.otherwise scope c.in_ok-stmt_size-in-If.field-0 end k l code d c.in-If.is size end_is mid first last

pub emit_stmt-returns-in_ok-emit_other-in-If-clause-same : goal.emit_stmt-returns-in_ok-emit_other-in-If-clause-same
emit_stmt-returns-in_ok-emit_other-in-If-clause-same t c =
    let scope = c.args.scopes.now in
    let inner = c.emit_other.new.scopes in
    let is : inner ≡ passed_arms c.in-If.arms scope = search rules in
    let back : c.go_back.new.self ≡ record { names = take (length scope.names) inner.names; start = scope.start; counts = scope.counts } = search rules in
    gone_back scope inner (passed_arms c.in-If.arms scope) is (arms_kept c.in-If.arms scope) back
