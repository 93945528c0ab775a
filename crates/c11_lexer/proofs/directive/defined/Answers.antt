use Rattle.std.proofs.Common.{◌≡◌, sym, ap, subst, ◌∙◌, ℕ, drop, take, refl}
use Rattle.c11_lexer.specs.Pieces.{Text}
use Rattle.c11_lexer.specs.Directives.{SkipsTo, first_run, after_run, IsWord}
use Rattle.c11_lexer.specs.Numbers.{SpellsNumber}
use Rattle.c11_lexer.proofs.Directives as law
use Rattle.c11_lexer.proofs.directive.defined.Goals as goal

pub returns-then-not-is_word : goal.returns-then-not-is_word
returns-then-not-is_word c =
    let name : c.split_at.result.0.now ≡ first_run c.in_ok-front.front.now = c.split_at.ensures.front ∙ ap (λ (n : ℕ). take n c.in_ok-front.front.now) c.word_run.ensures.value in
    ((λ f. law.never f), (λ h. c.if-not-is_word.ensures.1 (subst IsWord (sym name) (law.defined_at _ _ c.in_ok-front.ensures.rest h).name)))

pub returns-then-not-is_number : goal.returns-then-not-is_number
returns-then-not-is_number c =
    let after : c.split_at.result.1.now ≡ after_run c.in_ok-front.front.now = c.split_at.ensures.back ∙ ap (λ (n : ℕ). drop n c.in_ok-front.front.now) c.word_run.ensures.value in
    let number : c.split_at-2.result.0.now ≡ first_run c.in_ok-value.value.now = c.split_at-2.ensures.front ∙ ap (λ (n : ℕ). take n c.in_ok-value.value.now) c.word_run-2.ensures.value in
    let to : SkipsTo (after_run c.in_ok-front.front.now) c.in_ok-value.value.now = subst (λ (x : Text). SkipsTo x c.in_ok-value.value.now) after c.in_ok-value.ensures.rest in
    ((λ f. law.never f), (λ h. c.if-not-is_number.ensures.1 (subst SpellsNumber (sym number) (law.number_at _ _ _ c.in_ok-front.ensures.rest to h).number)))

pub returns : goal.returns
returns c =
    let name : c.split_at.result.0.now ≡ first_run c.in_ok-front.front.now = c.split_at.ensures.front ∙ ap (λ (n : ℕ). take n c.in_ok-front.front.now) c.word_run.ensures.value in
    let after : c.split_at.result.1.now ≡ after_run c.in_ok-front.front.now = c.split_at.ensures.back ∙ ap (λ (n : ℕ). drop n c.in_ok-front.front.now) c.word_run.ensures.value in
    let number : c.split_at-2.result.0.now ≡ first_run c.in_ok-value.value.now = c.split_at-2.ensures.front ∙ ap (λ (n : ℕ). take n c.in_ok-value.value.now) c.word_run-2.ensures.value in
    let end : c.split_at-2.result.1.now ≡ after_run c.in_ok-value.value.now = c.split_at-2.ensures.back ∙ ap (λ (n : ℕ). drop n c.in_ok-value.value.now) c.word_run-2.ensures.value in
    let to : SkipsTo (after_run c.in_ok-front.front.now) c.in_ok-value.value.now = subst (λ (x : Text). SkipsTo x c.in_ok-value.value.now) after c.in_ok-value.ensures.rest in
    law.defined_law c.ends.result _ _ _ c.in_ok-front.ensures.rest to (subst IsWord name (c.if-not-is_word.ensures.0 refl)) (subst SpellsNumber number (c.if-not-is_number.ensures.0 refl))
    (rw end at c.ends.ensures)
