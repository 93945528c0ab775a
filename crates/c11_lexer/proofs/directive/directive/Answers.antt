use Rattle.std.proofs.Common.{◌≡◌, ◌≤◌, ◌-◌, sym, ap, subst, ◌∙◌, ℕ, drop, take, length, true, false, refl, codes}
use Rattle.c11_lexer.specs.Pieces.{Text}
use Rattle.c11_lexer.specs.Directives.{Skips, SkipsTo, first_run, after_run, is_inside, IsWord, IsHeader, Included, Defined}
use Rattle.c11_lexer.specs.Directives as d
use Rattle.c11_lexer.proofs.Directives as law
use Rattle.c11_lexer.proofs.directive.directive.Goals as goal

pub returns-in_default-clause-none : goal.returns-in_default-clause-none
returns-in_default-clause-none c =
    let to : SkipsTo (drop 1 c.args.line.now) c.in_ok-front.front.now = subst (λ (x : Text). SkipsTo x c.in_ok-front.front.now) c.split_at.ensures.back c.in_ok-front.ensures.rest in
    let word : c.split_at-2.result.0.now ≡ first_run c.in_ok-front.front.now = c.split_at-2.ensures.front ∙ ap (λ (n : ℕ). take n c.in_ok-front.front.now) c.word_run.ensures.value in
    let after : c.split_at-2.result.1.now ≡ after_run c.in_ok-front.front.now = c.split_at-2.ensures.back ∙ ap (λ (n : ℕ). drop n c.in_ok-front.front.now) c.word_run.ensures.value in
    law.no_include _ _ c.requires.some c.requires.hash to (sym word ∙ c.if-is_include.ensures.0 refl) (rw after at (rw c.in_default.is at c.in_ok-rest.ensures.none))

pub returns-then-is_include-clause-found : goal.returns-then-is_include-clause-found
returns-then-is_include-clause-found c =
    let to : SkipsTo (drop 1 c.args.line.now) c.in_ok-front.front.now = subst (λ (x : Text). SkipsTo x c.in_ok-front.front.now) c.split_at.ensures.back c.in_ok-front.ensures.rest in
    let word : c.split_at-2.result.0.now ≡ first_run c.in_ok-front.front.now = c.split_at-2.ensures.front ∙ ap (λ (n : ℕ). take n c.in_ok-front.front.now) c.word_run.ensures.value in
    let after : c.split_at-2.result.1.now ≡ after_run c.in_ok-front.front.now = c.split_at-2.ensures.back ∙ ap (λ (n : ℕ). drop n c.in_ok-front.front.now) c.word_run.ensures.value in
    law.found_include _ _ _ c.requires.some c.requires.hash to (sym word ∙ c.if-is_include.ensures.0 refl) (subst (λ (x : Text). Included x c.in-Some.rest.now) after (rw c.in-Some.is at c.in_ok-rest.ensures.found))
    (subst (λ (x : Text). length c.in-Some.rest.now ≤ length x) after (rw c.in-Some.is at c.in_ok-rest.ensures.shorter))

pub returns-then-not-is_define-clause-none : goal.returns-then-not-is_define-clause-none
returns-then-not-is_define-clause-none c =
    let to : SkipsTo (drop 1 c.args.line.now) c.in_ok-front.front.now = subst (λ (x : Text). SkipsTo x c.in_ok-front.front.now) c.split_at.ensures.back c.in_ok-front.ensures.rest in
    let word : c.split_at-2.result.0.now ≡ first_run c.in_ok-front.front.now = c.split_at-2.ensures.front ∙ ap (λ (n : ℕ). take n c.in_ok-front.front.now) c.word_run.ensures.value in
    let after : c.split_at-2.result.1.now ≡ after_run c.in_ok-front.front.now = c.split_at-2.ensures.back ∙ ap (λ (n : ℕ). drop n c.in_ok-front.front.now) c.word_run.ensures.value in
    let not_include : first_run c.in_ok-front.front.now ≡ codes "include" → ⊥ = λ e. law.never (c.if-is_include.ensures.1 (word ∙ e)) in
    law.no_word _ _ c.requires.some c.requires.hash to not_include (λ e. law.never (c.if-not-is_define.ensures.1 (word ∙ e)))

pub returns-then-not-branch-clause-none : goal.returns-then-not-branch-clause-none
returns-then-not-branch-clause-none c =
    let to : SkipsTo (drop 1 c.args.line.now) c.in_ok-front.front.now = subst (λ (x : Text). SkipsTo x c.in_ok-front.front.now) c.split_at.ensures.back c.in_ok-front.ensures.rest in
    let word : c.split_at-2.result.0.now ≡ first_run c.in_ok-front.front.now = c.split_at-2.ensures.front ∙ ap (λ (n : ℕ). take n c.in_ok-front.front.now) c.word_run.ensures.value in
    let after : c.split_at-2.result.1.now ≡ after_run c.in_ok-front.front.now = c.split_at-2.ensures.back ∙ ap (λ (n : ℕ). drop n c.in_ok-front.front.now) c.word_run.ensures.value in
    let not_include : first_run c.in_ok-front.front.now ≡ codes "include" → ⊥ = λ e. law.never (c.if-is_include.ensures.1 (word ∙ e)) in
    law.no_define _ _ c.requires.some c.requires.hash to not_include (λ h. let answer = c.in_ok-defined.ensures.1 (subst Defined (sym after) h) in
    let no_ : false ≡ true = sym c.if-not-branch.true ∙ answer in law.never no_)

pub returns-clause-found : goal.returns-clause-found
returns-clause-found c =
    let to : SkipsTo (drop 1 c.args.line.now) c.in_ok-front.front.now = subst (λ (x : Text). SkipsTo x c.in_ok-front.front.now) c.split_at.ensures.back c.in_ok-front.ensures.rest in
    let word : c.split_at-2.result.0.now ≡ first_run c.in_ok-front.front.now = c.split_at-2.ensures.front ∙ ap (λ (n : ℕ). take n c.in_ok-front.front.now) c.word_run.ensures.value in
    let after : c.split_at-2.result.1.now ≡ after_run c.in_ok-front.front.now = c.split_at-2.ensures.back ∙ ap (λ (n : ℕ). drop n c.in_ok-front.front.now) c.word_run.ensures.value in
    subst (λ (x : Text). d.IsDirective c.args.line.now (length c.args.line.now - length x) _) (sym after)
    (law.found_define _ _ c.requires.some c.requires.hash to (sym word ∙ c.if-not-is_define.ensures.0 refl) (subst Defined after (c.in_ok-defined.ensures.0 c.if-not-branch.false)))
