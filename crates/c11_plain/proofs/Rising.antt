-- Rising lists of the numbers with a property, number by number.
use Rattle.std.proofs.Common.{◌≡◌, ℕ, ◌+◌, ◌<◌, List, [], ◌∷◌, ◌++◌, Some, slice_get, length, length-append, sym, ◌∙◌, subst, arith, ◌⊎◌, inl, inr}
use native.Mathlib.Decide.{ℕ_discrete, dec_lt}
use mathlib.Core.Logic.{dite}
use Rattle.std.proofs.lemmas.Option.{slice_get_within}
use Rattle.c11_events.specs.Offered.{IsRisingList}
use Rattle.c11_events.proofs.Longer.{get_last}
use Rattle.c11_events.proofs.Prefix.{get_more, get_less}

-- the rising list of the numbers below n for which P holds
pub record IsRisingBelow (P : ℕ → Type 0) (n : ℕ) (numbers : List ℕ) : Type 0 where
  pub rises : (i j x y : ℕ) → slice_get numbers i ≡ Some x → slice_get numbers j ≡ Some y → i < j → x < y
  pub only : (i x : ℕ) → slice_get numbers i ≡ Some x → (x < n) × P x
  pub all : (x : ℕ) → x < n → P x → (i : ℕ) × (slice_get numbers i ≡ Some x)

-- a number of a list with one more at its end
at_end : (xs : List ℕ) (n i x : ℕ) → slice_get (xs ++ n ∷ []) i ≡ Some x → (slice_get xs i ≡ Some x) ⊎ ((i ≡ length xs) × (x ≡ n))
at_end xs n i x at = dite (dec_lt i (length xs))
    (λ (lt : i < length xs). inl (get_less xs (n ∷ []) i x lt at))
    (λ (le : i < length xs → ⊥).
    let within = slice_get_within (xs ++ n ∷ []) i x at in
    let same : i ≡ length xs = omega (arith, within, length-append xs (n ∷ [])) in
    let last : Some n ≡ Some x = sym (get_last xs n) ∙ subst (λ (z : ℕ). slice_get (xs ++ n ∷ []) z ≡ Some x) same at in
    let is : x ≡ n = cc in inr (same, is))

module _ (P : ℕ → Type 0) where
  pub rising_none : IsRisingBelow P 0 []
  rising_none = record { rises = λ i j x y at. cc; only = λ i x at. cc; all = λ x lt. absurd (omega arith) }

  pub rising_skip : (n : ℕ) (xs : List ℕ) → (P n → ⊥) → IsRisingBelow P n xs → IsRisingBelow P (n + 1) xs
  rising_skip n xs not_n r = record {
    rises = r.rises;
    only = λ i x at. let t = r.only i x at in (omega (arith, t.0), t.1);
    all = λ x lt p. let differ : x ≡ n → ⊥ = λ same. not_n (subst P same p) in r.all x (omega arith) p;
  }

  rises_end : (n : ℕ) (xs : List ℕ) → IsRisingBelow P n xs → (i j x y : ℕ) → i < j
      → (slice_get xs i ≡ Some x) ⊎ ((i ≡ length xs) × (x ≡ n)) → (slice_get xs j ≡ Some y) ⊎ ((j ≡ length xs) × (y ≡ n)) → x < y
  rises_end n xs r i j x y lt (inl a) (inl b) = r.rises i j x y a b lt
  rises_end n xs r i j x y lt (inl a) (inr b) = omega (arith, (r.only i x a).0, b.1)
  rises_end n xs r i j x y lt (inr a) (inl b) = absurd (omega (arith, a.0, slice_get_within xs j y b))
  rises_end n xs r i j x y lt (inr a) (inr b) = absurd (omega (arith, a.0, b.0))

  pub rising_push : (n : ℕ) (xs : List ℕ) → P n → IsRisingBelow P n xs → IsRisingBelow P (n + 1) (xs ++ n ∷ [])
  rising_push n xs p r = record {
    rises = λ i j x y at_x at_y lt. rises_end n xs r i j x y lt (at_end xs n i x at_x) (at_end xs n j y at_y);
    only = λ i x at. elim (at_end xs n i x at) [
      | inl a ↦ let t = r.only i x a in (omega (arith, t.0), t.1)
      | inr a ↦ (omega (arith, a.1), subst P (sym a.1) p)
    ];
    all = λ x lt q. dite (ℕ_discrete x n)
        (λ (same : x ≡ n). (length xs, subst (λ (z : ℕ). slice_get (xs ++ n ∷ []) (length xs) ≡ Some z) (sym same) (get_last xs n)))
        (λ (differ : x ≡ n → ⊥). let t = r.all x (omega arith) q in (t.0, get_more xs (n ∷ []) t.0 x t.1));
  }

  pub rising_done : (n : ℕ) (xs : List ℕ) → ((x : ℕ) → P x → x < n) → IsRisingBelow P n xs → IsRisingList P xs
  rising_done n xs bound r = record { rises = r.rises; only = λ i x at. (r.only i x at).1; all = λ x p. r.all x (bound x p) p }
