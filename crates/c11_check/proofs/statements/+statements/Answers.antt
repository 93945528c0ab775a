use Rattle.std.proofs.Common.{◌≡◌, rules, ap, ◌∙◌, ◌++◌, Option, Some, refl}
use Rattle.c11_ast.specs.declared.stmt.Stmt.{Stmt}
use Rattle.c11_ast.specs.declared.stmt.Stmt.TheVariants.{If}
use Rattle.c11_check.specs.Scopes.{Scope, entered, left_for}
use Rattle.c11_check.specs.Expressions.{part_of, used}
use Rattle.c11_check.specs.Statements.{Walked, before, followed, walked, walk_of, walk_of_arm, looping, optional_used, optional_alone}
use Rattle.c11_check.specs.Branches.{arms_walk, start_walk}
use Rattle.c11_check.specs.Walks.{Walks}
use Rattle.c11_check.proofs.Parts.{both}
use Rattle.c11_check.proofs.Walking.{IsWalked, in_order_walked, walks_same, walks_before, walks_followed, walks_inside, walked_same, walked_before, walked_followed}
use Rattle.c11_check.proofs.Stmts.{arm_is, while_is, do_is, if_is, for_is}
use Rattle.c11_check.proofs.statements.+statements.Goals as goal

pub in_order-loop-item-preserved : goal.in_order-loop-item-preserved
in_order-loop-item-preserved t c = in_order_walked walk_of c.loop-item.first c.args.items.now c.loop-item.item-index c.item-item.result c.args.around c.loop-item.scopes c.args.first _
    c.loop-item-test.true c.item-item.is c.in_ok-first.ensures c.loop-item.invariant

pub arms-loop-arm-preserved : goal.arms-loop-arm-preserved
arms-loop-arm-preserved t c =
    let arm = c.arm-item.result in
    let s = c.loop-arm.scopes in
    let k = c.loop-arm.first in
    let body : IsWalked (walk_of arm.body c.args.around s) c.used-tested.result c.in_ok-first.first c.walk.new.scopes = c.in_ok-first.ensures in
    let one = walked_same k c.in_ok-first.first c.walk.new.scopes (arm_is arm c.args.around s)
    (walked_before (used (part_of arm.test) s) (walk_of arm.body c.args.around s) k c.used-tested.ensures body) in
    in_order_walked walk_of_arm k c.as_slice-arm-items.result.now c.loop-arm.arm-index arm c.args.around s c.args.first _ c.loop-arm-test.true c.arm-item.is one c.loop-arm.invariant

pub walk-returns-in-While : goal.walk-returns-in-While
walk-returns-in-While t c =
    let s = c.args.scopes.now in
    let body : Walks (walk_of c.in-While.body (looping c.args.around) s) c.used-first.result c.walk-in-While.result c.walk-in-While.new.scopes = search rules in
    walks_same c.args.first c.walk-in-While.result c.walk-in-While.new.scopes (while_is _ _ _ _ c.args.around s c.in-While.is)
    (walks_before (used (part_of c.in-While.test) s) (walk_of c.in-While.body (looping c.args.around) s) c.args.first c.walk-in-While.result c.walk-in-While.new.scopes c.used-first.ensures body)

pub walk-returns-in-Some : goal.walk-returns-in-Some
walk-returns-in-Some t c =
    let s = c.args.scopes.now in
    let around = c.args.around in
    let is : c.args.stmt.now ≡ If c.in-If.spot c.in-If.arms (Some c.in-Some.other) = c.in-If.is ∙ ap (λ (o : Option Stmt). If c.in-If.spot c.in-If.arms o) c.in-Some.is in
    let another : Walks (walk_of c.in-Some.other around c.arms.new.scopes) c.in_ok-first-in-If.first c.walk.result c.walk.new.scopes = search rules in
    walks_same c.args.first c.walk.result c.walk.new.scopes (if_is _ _ _ _ around s is)
    (walks_followed (arms_walk c.args.stmt.now around s) (walk_of c.in-Some.other around) c.args.first c.walk.result c.walk.new.scopes c.in_ok-first-in-If.ensures another)

pub walk-returns-in_ok-first-in-Do : goal.walk-returns-in_ok-first-in-Do
walk-returns-in_ok-first-in-Do t c =
    let s = c.args.scopes.now in
    let around = c.args.around in
    let after = c.walk-in-Do.new.scopes in
    let body : IsWalked (walk_of c.in-Do.body (looping around) s) c.args.first c.in_ok-first-in-Do.first after = search rules in
    walked_same c.args.first c.used.result after (do_is _ _ _ _ around s c.in-Do.is)
    (walked_followed (walk_of c.in-Do.body (looping around) s) (λ inner. walked (used (part_of c.in-Do.test) inner) inner) c.args.first body (c.used.ensures, refl))

pub walk-returns-in_ok-first-in-For-2 : goal.walk-returns-in_ok-first-in-For-2
walk-returns-in_ok-first-in-For-2 t c =
    let s = c.args.scopes.now in
    let around = c.args.around in
    let after = c.walk-in-For.new.scopes in
    let begun : IsWalked (start_walk c.args.stmt.now around (entered s)) c.args.first c.in_ok-first-in-For.first c.start.new.scopes = search rules in
    let mid = c.start.new.scopes in
    let tested = both c.in_ok-first-in-For.first (optional_used c.in-For.test mid) (optional_alone c.in-For.next mid) c.optional_used-first.ensures c.optional_alone-first.ensures in
    let body : IsWalked (walk_of c.in-For.body (looping around) mid) c.optional_alone-first.result c.in_ok-first-in-For-2.first after = search rules in
    let next : Scope → Walked = λ inner. before (optional_used c.in-For.test inner ++ optional_alone c.in-For.next inner) (walk_of c.in-For.body (looping around) inner) in
    let left : c.leave-in-For.new.self ≡ left_for s after = search rules in
    walked_same c.args.first c.in_ok-first-in-For-2.first c.leave-in-For.new.self (for_is _ _ _ _ _ _ around s c.in-For.is)
    (walks_inside s (followed (start_walk c.args.stmt.now around (entered s)) next) c.args.first c.in_ok-first-in-For-2.first after
    (walked_followed (start_walk c.args.stmt.now around (entered s)) next c.args.first begun
    (walked_before (optional_used c.in-For.test mid ++ optional_alone c.in-For.next mid) (walk_of c.in-For.body (looping around) mid) c.in_ok-first-in-For.first tested body)) left)
