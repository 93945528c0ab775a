-- Places in an order that has each store once.
use Rattle.std.proofs.Common.{◌≡◌, ℕ, ◌<◌, List, Some, slice_get, sym, ap, ◌∙◌, arith}
use native.Mathlib.Decide.{dec_lt}
use mathlib.Core.Logic.{dite}
use Rattle.c11_events.specs.declared.event.Event.{Event}
use Rattle.c11_events.specs.Events.{IsStore}
use Rattle.c11_events.specs.Lawful.{Precedes, IsModificationOrder}

module _ (events : List Event) (cell : ℕ) (order : List ℕ) (is : IsModificationOrder events cell order) where
  pub before_places : (i j x y : ℕ) → slice_get order i ≡ Some x → slice_get order j ≡ Some y → Precedes order x y → i < j
  before_places i j x y at_x at_y b = omega (arith, is.once i b.i x at_x b.first, is.once j b.j y at_y b.second, b.places)

  pub before_irreflexive : (x : ℕ) → Precedes order x x → ⊥
  before_irreflexive x b = omega (arith, before_places b.i b.i x x b.first b.first b)

  pub before_transitive : (x y z : ℕ) → Precedes order x y → Precedes order y z → Precedes order x z
  before_transitive x y z b c = record { i = b.i; j = c.j; first = b.first; second = c.second; places = omega (arith, is.once b.j c.i y b.second c.first, b.places, c.places) }

  pub same_place : (i j x y : ℕ) → slice_get order i ≡ Some x → slice_get order j ≡ Some y → i ≡ j → x ≡ y
  same_place i j x y at_x at_y same = let e : Some x ≡ Some y = sym at_x ∙ (ap (λ (k : ℕ). slice_get order k) same ∙ at_y) in cc

  pub before_or : (x y : ℕ) → IsStore events cell x → IsStore events cell y → (x ≡ y → ⊥) → (Precedes order y x → ⊥) → Precedes order x y
  before_or x y sx sy differ not_back =
      let p = is.all x sx in
      let q = is.all y sy in
      dite (dec_lt p.0 q.0) (λ (lt : p.0 < q.0). record { i = p.0; j = q.0; first = p.1; second = q.1; places = lt })
      (λ (no' : p.0 < q.0 → ⊥). dite (dec_lt q.0 p.0) (λ (lt : q.0 < p.0). absurd (not_back (record { i = q.0; j = p.0; first = q.1; second = p.1; places = lt })))
      (λ (no'' : q.0 < p.0 → ⊥). absurd (differ (same_place p.0 q.0 x y p.1 q.1 (omega arith)))))
