-- A list with one value changed.
use Rattle.std.proofs.Common.{◌≡◌, ℕ, ◌<◌, ◌≤◌, Bool, true, false, List, Some, slice_get, length, get_or, set, nat_eq, if◌then◌else◌, refl, sym, ap, subst, ◌∙◌, arith}
use Rattle.std.specs.Global.{Vec}
use Rattle.std.specs.Vec.{with_items}
use Rattle.std.proofs.lemmas.Bool.{eqb-true, eqb-false}
use Rattle.std.proofs.lemmas.List.{get_or-set_same, get_or-set_other, length-set, with_items_is}
use Rattle.std.proofs.lemmas.Option.{slice_get-get_or, slice_get_within, get_or_from_slice_get}
use Rattle.c11_replies.specs.Changed.{AreChanged}

module _ {X : Type 0} (xs : List X) (i : ℕ) (d : X) (f : X → X) where
  pub changed_at : i < length xs → AreChanged (λ j x. if nat_eq i j then f x else x) xs (set xs i (f (get_or xs i d)))
  changed_at lt = record {
    count = length-set xs i (f (get_or xs i d));
    each = λ j x at. slice_get-get_or (set xs i (f (get_or xs i d))) j x (omega (arith, length-set xs i (f (get_or xs i d)), slice_get_within xs j x at))
        ∙ ap (λ (z : X). Some z) (here j x at (nat_eq i j) refl);
  }
    where
      here : (j : ℕ) (x : X) → slice_get xs j ≡ Some x → (b : Bool) → nat_eq i j ≡ b → get_or (set xs i (f (get_or xs i d))) j x ≡ (if b then f x else x)
      here j x at true is =
          let same = eqb-true i j is in
          ap (λ (k : ℕ). get_or (set xs i (f (get_or xs i d))) k x) (sym same) ∙ (get_or-set_same xs i (f (get_or xs i d)) x lt ∙ ap f (get_or_from_slice_get xs i x d (ap (λ (k : ℕ). slice_get xs k) same ∙ at)))
      here j x at false is = get_or-set_other xs i j (f (get_or xs i d)) x (λ same. eqb-false i j is (sym same)) ∙ get_or_from_slice_get xs j x x at

module _ {X : Type 0} (xs : List X) (i : ℕ) (f : X → X) where
  pub unchanged : length xs ≤ i → AreChanged (λ j x. if nat_eq i j then f x else x) xs xs
  unchanged le = record { count = refl; each = λ j x at. at ∙ ap (λ (z : X). Some z) (here j x (slice_get_within xs j x at) (nat_eq i j) refl) }
    where
      here : (j : ℕ) (x : X) → j < length xs → (b : Bool) → nat_eq i j ≡ b → x ≡ (if b then f x else x)
      here j x lt true is = absurd (omega (arith, eqb-true i j is))
      here j x lt false is = refl

-- the values of a Vec that were changed through a slice
pub in_place : {X : Type 0} (change : ℕ → X → X) (v : Vec X) (old new : List X) → old ≡ v.items → AreChanged change old new → AreChanged change v.items (with_items v new).items
in_place {X} change v old new is changed =
    let at_items : AreChanged change v.items new = subst (λ (l : List X). AreChanged change l new) is changed in
    subst (λ (l : List X). AreChanged change v.items l) (sym (with_items_is v new (at_items.count ∙ sym v.ok.0))) at_items
