use Rattle.std.proofs.Common.{◌≡◌, ◌<◌, sym, ap, subst, ◌∙◌, ℕ, drop, take, length, arith, true, false, [], refl}
use Rattle.std.proofs.lemmas.Grind.{common_steps}
use Rattle.c11_lexer.specs.Pieces.{Text, run}
use Rattle.c11_lexer.specs.Directives.{Skips, is_inside, IsHeader, Included}
use Rattle.c11_lexer.proofs.Directives as law
use Rattle.c11_lexer.proofs.directive.included.Goals as goal

pub returns-then-is_empty-clause-none : goal.returns-then-is_empty-clause-none
returns-then-is_empty-clause-none c =
    let end : c.split_at.result.1.now ≡ drop (run is_inside c.in_ok-header.header.now) c.in_ok-header.header.now = c.split_at.ensures.back ∙ ap (λ (n : ℕ). drop n c.in_ok-header.header.now) c.inside_run.ensures.value in
    law.no_close _ _ c.in_ok-header.ensures.rest (let none : length c.split_at.result.1.now ≡ 0 = grind (arith, common_steps) in sym (ap length end) ∙ none)

pub returns-then-not-is_header-clause-none : goal.returns-then-not-is_header-clause-none
returns-then-not-is_header-clause-none c =
    let name : c.split_at.result.0.now ≡ take (run is_inside c.in_ok-header.header.now) c.in_ok-header.header.now = c.split_at.ensures.front ∙ ap (λ (n : ℕ). take n c.in_ok-header.header.now) c.inside_run.ensures.value in
    law.no_header _ _ c.in_ok-header.ensures.rest (λ h. law.never (c.if-not-is_header.ensures.1 (subst IsHeader (sym name) h)))

pub returns-then-not-branch-clause-none : goal.returns-then-not-branch-clause-none
returns-then-not-branch-clause-none c =
    let end : c.split_at.result.1.now ≡ drop (run is_inside c.in_ok-header.header.now) c.in_ok-header.header.now = c.split_at.ensures.back ∙ ap (λ (n : ℕ). drop n c.in_ok-header.header.now) c.inside_run.ensures.value in
    let rest : c.split_at-2.result.1.now ≡ drop 1 (drop (run is_inside c.in_ok-header.header.now) c.in_ok-header.header.now) = c.split_at-2.ensures.back ∙ ap (drop 1) end in
    law.no_end _ _ c.in_ok-header.ensures.rest (λ h. let answer = c.in_ok-ends.ensures.1 (subst (λ (x : Text). Skips x []) (sym rest) h) in let no_ : false ≡ true = sym c.if-not-branch.true ∙ answer in law.never no_)

pub returns-clause-found : goal.returns-clause-found
returns-clause-found c =
    let name : c.split_at.result.0.now ≡ take (run is_inside c.in_ok-header.header.now) c.in_ok-header.header.now = c.split_at.ensures.front ∙ ap (λ (n : ℕ). take n c.in_ok-header.header.now) c.inside_run.ensures.value in
    let end : c.split_at.result.1.now ≡ drop (run is_inside c.in_ok-header.header.now) c.in_ok-header.header.now = c.split_at.ensures.back ∙ ap (λ (n : ℕ). drop n c.in_ok-header.header.now) c.inside_run.ensures.value in
    let rest : c.split_at-2.result.1.now ≡ drop 1 (drop (run is_inside c.in_ok-header.header.now) c.in_ok-header.header.now) = c.split_at-2.ensures.back ∙ ap (drop 1) end in
    let some : 0 < length c.split_at.result.1.now = grind (arith, common_steps) in
    subst (Included c.args.line.now) (sym rest) (law.is_included _ _ c.in_ok-header.ensures.rest (subst (λ (x : Text). 0 < length x) end some) (subst IsHeader name (c.if-not-is_header.ensures.0 refl))
    (subst (λ (x : Text). Skips x []) rest (c.in_ok-ends.ensures.0 c.if-not-branch.false)))
