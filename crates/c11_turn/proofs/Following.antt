-- A history that follows a seed, with one step more.
use Rattle.std.proofs.Common.{◌≡◌, ℕ, ◌+◌, ◌%◌, Bool, true, false, cond, nat_lt, List, [], ◌∷◌, ◌++◌, Option, Some, None, length, slice_get, refl, sym, ap, ◌∙◌, subst, arith, inl, inr, length-append, append-nil}
use Rattle.std.specs.Prelude.{⊤, MatchOption, Contains, if◌then◌else◌}
use Rattle.std.proofs.lemmas.Bool.Decides.{nat_tests}
use Rattle.std.proofs.lemmas.List.Elements.{filter-append}
use Rattle.c11_events.specs.declared.entry.Entry.{Entry}
use Rattle.c11_events.specs.declared.op.Op.{Op}
use Rattle.c11_events.specs.Draws.{chosen, draw, words_for}
use Rattle.c11_events.specs.EventOf.{events_of}
use Rattle.c11_events.specs.Offered.{Offered, op_cell, op_reading}
use Rattle.c11_events.specs.Steps.{ReadsOffered}
use Rattle.c11_machine.specs.Runs.{Follows, IsLegalStep, Program, choices_of, more}
use Rattle.c11_run.proofs.Lists.{old_or_end}

-- a choice among two or more takes the next word
chosen_drawn : (seed k n : ℕ) → nat_lt 1 n ≡ true → chosen seed k n ≡ draw seed k % n
chosen_drawn seed k n is = by_few (nat_lt n 2) refl
  where
    by_few : (b : Bool) → nat_lt n 2 ≡ b → (if b then 0 else draw seed k % n) ≡ draw seed k % n
    by_few true few = absurd (grind (arith, nat_tests))
    by_few false few = refl

words_here : {X : Type 0} (x : X) (n : ℕ) → length (cond (nat_lt 1 n) (x ∷ []) []) ≡ words_for n
words_here x n = by_both (nat_lt 1 n) (nat_lt n 2) refl refl
  where
    by_both : (a b : Bool) → nat_lt 1 n ≡ a → nat_lt n 2 ≡ b → length (cond a (x ∷ []) []) ≡ (if b then 0 else 1)
    by_both true true p q = absurd (grind (arith, nat_tests))
    by_both true false p q = refl
    by_both false true p q = refl
    by_both false false p q = absurd (grind (arith, nat_tests))

module _ (program : Program) (seed bound : ℕ) (entries : List Entry) (e : Entry) where
  choices_more : choices_of (entries ++ e ∷ []) ≡ choices_of entries ++ cond (nat_lt 1 (length e.offered)) (e ∷ []) []
  choices_more = filter-append (λ (g : Entry). nat_lt 1 (length g.offered)) entries (e ∷ [])

  pub words_more : length (choices_of (entries ++ e ∷ [])) ≡ length (choices_of entries) + words_for (length e.offered)
  words_more = ap length choices_more ∙ (length-append (choices_of entries) (cond (nat_lt 1 (length e.offered)) (e ∷ []) []) ∙ ap (λ (n : ℕ). length (choices_of entries) + n) (words_here e (length e.offered)))

  -- where the step read among two or more, it read what the next word chose
  module _ (o : Op) (reads : ReadsOffered Offered (events_of entries) e.thread o e.offered e.from)
      (drawn : MatchOption (op_cell o) ⊤ (λ _. slice_get e.offered (chosen seed (length (choices_of entries)) (length e.offered)) ≡ Some e.from)) (two : nat_lt 1 (length e.offered) ≡ true) where
    read_drawn : slice_get e.offered (draw seed (length (choices_of entries)) % length e.offered) ≡ Some e.from
    read_drawn = ap (slice_get e.offered) (sym (chosen_drawn seed (length (choices_of entries)) (length e.offered) two)) ∙ by_cell (op_cell o) reads drawn
      where
        by_cell : (c : Option ℕ) → MatchOption c ((e.offered ≡ []) × (e.from ≡ 0)) (λ cell. Offered (events_of entries) e.thread (op_reading (events_of entries) o) cell e.offered × Contains e.offered e.from)
            → MatchOption c ⊤ (λ _. slice_get e.offered (chosen seed (length (choices_of entries)) (length e.offered)) ≡ Some e.from)
            → slice_get e.offered (chosen seed (length (choices_of entries)) (length e.offered)) ≡ Some e.from
        by_cell None r d = let few : nat_lt 1 (length e.offered) ≡ false = ap (λ (xs : List ℕ). nat_lt 1 (length xs)) r.0 in let clash : true ≡ false = sym two ∙ few in absurd cc
        by_cell (Some cell) r d = d

  pub follows_more : Follows Offered program seed bound entries → (s : IsLegalStep Offered program bound entries e)
      → MatchOption (op_cell s.ask.op) ⊤ (λ _. slice_get e.offered (chosen seed (length (choices_of entries)) (length e.offered)) ≡ Some e.from)
      → Follows Offered program seed bound (entries ++ e ∷ [])
  follows_more follows s drawn = record {
    legal = more entries e follows.legal s;
    drawn = λ i f at. by_choice (nat_lt 1 (length e.offered)) refl i f (subst (λ (es : List Entry). slice_get es i ≡ Some f) choices_more at);
  }
    where
      by_choice : (b : Bool) → nat_lt 1 (length e.offered) ≡ b → (i : ℕ) (f : Entry) → slice_get (choices_of entries ++ cond b (e ∷ []) []) i ≡ Some f
          → slice_get f.offered (draw seed i % length f.offered) ≡ Some f.from
      by_choice true two i f at = elim (old_or_end (choices_of entries) e i f at) [
        | inl old ↦ follows.drawn i f old
        | inr end ↦ subst (λ (p : ℕ × Entry). slice_get p.1.offered (draw seed p.0 % length p.1.offered) ≡ Some p.1.from) (λ i. (sym end.0 i, end.1 i)) (read_drawn s.ask.op s.step.reads drawn two)
      ]
      by_choice false few i f at = follows.drawn i f (subst (λ (es : List Entry). slice_get es i ≡ Some f) (append-nil (choices_of entries)) at)
