use Rattle.std.proofs.Common.{rules, ◌≡◌, ap, ◌∙◌, sym}
use Rattle.c11_check.specs.Scopes.{Scope, entered, left_for}
use Rattle.c11_lower.specs.Lowered.{passed, passed_all, passed_arms, passed_optional}
use Rattle.c11_lower.proofs.Behind.{passed_block, passed_if, passed_while, passed_do, passed_for}
use Rattle.c11_lower.proofs.passing.+passing.Goals as goal

pub pass-returns-in_ok-pass_all-in-Block : goal.pass-returns-in_ok-pass_all-in-Block
pass-returns-in_ok-pass_all-in-Block t c =
    let scope = c.args.scopes.now in
    let inner : c.pass_all.new.scopes ≡ passed_all c.in-Block.block.items (entered scope) = search rules in
    let left : c.leave.new.self ≡ left_for scope c.pass_all.new.scopes = search rules in
    left ∙ (ap (λ (m : Scope). left_for scope m) inner ∙ sym (passed_block c.args.stmt.now c.in-Block.block scope c.in-Block.is))

pub pass-returns-in_ok-pass_optional-in-If : goal.pass-returns-in_ok-pass_optional-in-If
pass-returns-in_ok-pass_optional-in-If t c =
    let scope = c.args.scopes.now in
    let arms : c.pass_arms.new.scopes ≡ passed_arms c.in-If.arms scope = search rules in
    let last : c.pass_optional.new.scopes ≡ passed_optional c.in-If.otherwise c.pass_arms.new.scopes = search rules in
    last ∙ (ap (λ (m : Scope). passed_optional c.in-If.otherwise m) arms ∙ sym (passed_if c.args.stmt.now c.in-If.spot c.in-If.arms c.in-If.otherwise scope c.in-If.is))

pub pass-returns-in_ok-pass-in-While : goal.pass-returns-in_ok-pass-in-While
pass-returns-in_ok-pass-in-While t c =
    let body : c.pass.new.scopes ≡ passed c.in-While.body c.args.scopes.now = search rules in
    body ∙ sym (passed_while c.args.stmt.now c.in-While.spot c.in-While.test c.in-While.body c.args.scopes.now c.in-While.is)

pub pass-returns-in_ok-pass-in-Do : goal.pass-returns-in_ok-pass-in-Do
pass-returns-in_ok-pass-in-Do t c =
    let body : c.pass-in-Do.new.scopes ≡ passed c.in-Do.body c.args.scopes.now = search rules in
    body ∙ sym (passed_do c.args.stmt.now c.in-Do.spot c.in-Do.body c.in-Do.test c.args.scopes.now c.in-Do.is)

pub pass-returns-in_ok-pass-in-For : goal.pass-returns-in_ok-pass-in-For
pass-returns-in_ok-pass-in-For t c =
    let scope = c.args.scopes.now in
    let start : c.pass_optional-in-For.new.scopes ≡ passed_optional c.in-For.start (entered scope) = search rules in
    let body : c.pass-in-For.new.scopes ≡ passed c.in-For.body c.pass_optional-in-For.new.scopes = search rules in
    let left : c.leave-in-For.new.self ≡ left_for scope c.pass-in-For.new.scopes = search rules in
    left ∙ (ap (λ (m : Scope). left_for scope m) (body ∙ ap (λ (m : Scope). passed c.in-For.body m) start)
    ∙ sym (passed_for c.args.stmt.now c.in-For.spot c.in-For.start c.in-For.test c.in-For.next c.in-For.body scope c.in-For.is))
