use Rattle.std.proofs.Common.{rules, ◌≡◌, ℕ, ◌+◌, length, take, ap, ◌∙◌, sym}
use Rattle.c11_check.specs.Scopes.{Scope, entered}
use Rattle.c11_lower.specs.Lowered.{optional_strip, arms_size, loop_size, passed_all, passed_arms, passed_optional}
use Rattle.c11_lower.proofs.Walks.{passed_all_kept, arms_kept, optional_kept}
use Rattle.c11_lower.proofs.Sizes.{gone_back, size_if, size_for, size_handles}
use Rattle.c11_lower.proofs.measuring.+measuring.Goals as goal

pub block_size-returns-clause-same : goal.block_size-returns-clause-same
block_size-returns-clause-same t c =
    let scope = c.args.scopes.now in
    let inner = c.size_of_all.new.scopes in
    let is : inner ≡ passed_all c.args.block.now.items (entered scope) = search rules in
    let back : c.go_back.new.self ≡ record { names = take (length scope.names) inner.names; start = scope.start; counts = scope.counts } = search rules in
    gone_back scope inner (passed_all c.args.block.now.items (entered scope)) is (passed_all_kept c.args.block.now.items (entered scope)) back

pub stmt_size-returns-in_ok-size-in-If-clause-size : goal.stmt_size-returns-in_ok-size-in-If-clause-size
stmt_size-returns-in_ok-size-in-If-clause-size t c =
    let scope = c.args.scopes.now in
    let mid : c.arms_size.new.scopes ≡ passed_arms c.in-If.arms scope = search rules in
    let first : c.in_ok-first-in-If.first ≡ arms_size c.in-If.arms scope = search rules in
    let last : c.in_ok-last-in-If.last ≡ (optional_strip c.in-If.otherwise c.arms_size.new.scopes).size = search rules in
    let last' = last ∙ ap (λ (m : Scope). (optional_strip c.in-If.otherwise m).size) mid in
    let sum : c.in_ok-size-in-If.size ≡ c.in_ok-first-in-If.first + c.in_ok-last-in-If.last = c.in_ok-size-in-If.ensures in
    sum ∙ (ap (λ (n : ℕ). n + c.in_ok-last-in-If.last) first ∙ (ap (λ (n : ℕ). arms_size c.in-If.arms scope + n) last'
    ∙ sym (size_if c.args.stmt.now c.in-If.spot c.in-If.arms c.in-If.otherwise scope c.in-If.is)))

pub stmt_size-returns-in_ok-size-in-If-clause-same : goal.stmt_size-returns-in_ok-size-in-If-clause-same
stmt_size-returns-in_ok-size-in-If-clause-same t c =
    let scope = c.args.scopes.now in
    let inner = c.size_of_optional.new.scopes in
    let is : inner ≡ passed_arms c.in-If.arms scope = search rules in
    let back : c.go_back.new.self ≡ record { names = take (length scope.names) inner.names; start = scope.start; counts = scope.counts } = search rules in
    gone_back scope inner (passed_arms c.in-If.arms scope) is (arms_kept c.in-If.arms scope) back

pub stmt_size-returns-in_ok-size-in-For-clause-size : goal.stmt_size-returns-in_ok-size-in-For-clause-size
stmt_size-returns-in_ok-size-in-For-clause-size t c =
    let scope = c.args.scopes.now in
    let begun : c.in_ok-begun-in-For.begun ≡ (optional_strip c.in-For.start (entered scope)).size = search rules in
    let mid : c.pass_optional.new.scopes ≡ passed_optional c.in-For.start (entered scope) = search rules in
    let turned : c.in_ok-turned-in-For.turned ≡ loop_size c.in-For.test c.in-For.next c.in-For.body c.pass_optional.new.scopes = search rules in
    let turned' = turned ∙ ap (λ (m : Scope). loop_size c.in-For.test c.in-For.next c.in-For.body m) mid in
    let sum : c.in_ok-size-in-For.size ≡ c.in_ok-begun-in-For.begun + c.in_ok-turned-in-For.turned = c.in_ok-size-in-For.ensures in
    sum ∙ (ap (λ (n : ℕ). n + c.in_ok-turned-in-For.turned) begun ∙ (ap (λ (n : ℕ). (optional_strip c.in-For.start (entered scope)).size + n) turned'
    ∙ sym (size_for c.args.stmt.now c.in-For.spot c.in-For.start c.in-For.test c.in-For.next c.in-For.body scope c.in-For.is)))

pub stmt_size-returns-in_ok-size-in-For-clause-same : goal.stmt_size-returns-in_ok-size-in-For-clause-same
stmt_size-returns-in_ok-size-in-For-clause-same t c =
    let scope = c.args.scopes.now in
    let inner = c.turning_size.new.scopes in
    let mid = passed_optional c.in-For.start (entered scope) in
    let is : inner ≡ mid = search rules in
    let back : c.go_back-in-For.new.self ≡ record { names = take (length scope.names) inner.names; start = scope.start; counts = scope.counts } = search rules in
    gone_back scope inner mid is (optional_kept c.in-For.start (entered scope)) back

pub stmt_size-returns-in-Handles-clause-size : goal.stmt_size-returns-in-Handles-clause-size
stmt_size-returns-in-Handles-clause-size t c =
    let count : c.len-size.result ≡ length c.in-Handles.places = search rules in
    count ∙ sym (size_handles c.args.stmt.now c.in-Handles.spot c.in-Handles.places c.args.scopes.now c.in-Handles.is)
