-- The places of a list with one item more, and the last place of a pair in it.
use Rattle.std.proofs.Common.{◌≡◌, ℕ, zero, suc, ◌<◌, ◌≤◌, List, [], ◌∷◌, ◌++◌, Option, Some, None, slice_get, slice_index_or, length, refl, sym, ap, ◌∙◌, subst, arith, ◌⊎◌, inl, inr}
use native.Mathlib.Decide.{dec_lt}
use mathlib.Core.Logic.{dite}
use Rattle.c11_latest.specs.declared.latest.Note.{Note}
use Rattle.c11_latest.specs.Notes.{note}
use Rattle.c11_latest.specs.Linked.{IsOf, IsLastPlace}

pub get_more : {X : Type 0} (xs : List X) (y : X) (i : ℕ) (x : X) → slice_get xs i ≡ Some x → slice_get (xs ++ y ∷ []) i ≡ Some x
get_more [] y i x at = cc
get_more (w ∷ xs) y zero x at = at
get_more (w ∷ xs) y (suc i) x at = get_more xs y i x at

pub get_last : {X : Type 0} (xs : List X) (y : X) → slice_get (xs ++ y ∷ []) (length xs) ≡ Some y
get_last [] y = refl
get_last (x ∷ xs) y = get_last xs y

pub old_or_last : {X : Type 0} (xs : List X) (y : X) (i : ℕ) (x : X) → slice_get (xs ++ y ∷ []) i ≡ Some x
    → ((i < length xs) × (slice_get xs i ≡ Some x)) ⊎ ((i ≡ length xs) × (y ≡ x))
old_or_last [] y zero x at = inr (refl, let same : y ≡ x = cc in same)
old_or_last [] y (suc i) x at = cc
old_or_last (w ∷ xs) y zero x at = inl (omega arith, at)
old_or_last (w ∷ xs) y (suc i) x at = elim (old_or_last xs y i x at) [ inl old ↦ inl (omega (arith, old.0), old.1) | inr new ↦ inr (ap suc new.0, new.1) ]

pub inside : {X : Type 0} (xs : List X) (i : ℕ) (x : X) → slice_get xs i ≡ Some x → i < length xs
inside [] i x at = cc
inside (w ∷ xs) zero x at = omega arith
inside (w ∷ xs) (suc i) x at = let less = inside xs i x at in omega arith

pub one_at : {X : Type 0} (xs : List X) (i : ℕ) (x y : X) → slice_get xs i ≡ Some x → slice_get xs i ≡ Some y → x ≡ y
one_at xs i x y at at' = let both : Some x ≡ Some y = sym at ∙ at' in cc

module _ (notes : List Note) (n : Note) (cell thread : ℕ) where
  pub of_more : (i : ℕ) → IsOf notes cell thread i → IsOf (notes ++ n ∷ []) cell thread i
  of_more i o = (o.0, get_more notes n i (note cell thread o.0) o.1)

  pub of_less : (i : ℕ) → i < length notes → IsOf (notes ++ n ∷ []) cell thread i → IsOf notes cell thread i
  of_less i less o = elim (old_or_last notes n i (note cell thread o.0) o.1) [ inl old ↦ (o.0, old.1) | inr new ↦ absurd (omega (arith, new.0)) ]

  pub place_more : (end : ℕ) (o : Option ℕ) → end ≤ length notes → IsLastPlace notes cell thread end o → IsLastPlace (notes ++ n ∷ []) cell thread end o
  place_more end None le none = λ q less o. none q less (of_less q (omega arith) o)
  place_more end (Some p) le is = (is.0, of_more p is.1, λ q above less o. is.2 q above less (of_less q (omega arith) o))

  -- the end goes past a place of another pair
  pub place_past : (end : ℕ) (o : Option ℕ) → (IsOf (notes ++ n ∷ []) cell thread end → ⊥) → IsLastPlace (notes ++ n ∷ []) cell thread end o
      → IsLastPlace (notes ++ n ∷ []) cell thread (suc end) o
  place_past end None other none = λ q less o. past q less o
    where
      past : (q : ℕ) → q < suc end → IsOf (notes ++ n ∷ []) cell thread q → ⊥
      past q less o = dite (dec_lt q end) (λ (l : q < end). none q l o) (λ (no' : q < end → ⊥). other (subst (λ (k : ℕ). IsOf (notes ++ n ∷ []) cell thread k) (omega arith) o))
  place_past end (Some p) other is = (omega (arith, is.0), is.1, λ q above less o. past q above less o)
    where
      past : (q : ℕ) → p < q → q < suc end → IsOf (notes ++ n ∷ []) cell thread q → ⊥
      past q above less o = dite (dec_lt q end) (λ (l : q < end). is.2 q above l o) (λ (no' : q < end → ⊥). other (subst (λ (k : ℕ). IsOf (notes ++ n ∷ []) cell thread k) (omega arith) o))

pub get_of_index : {X : Type 0} (xs : List X) (i : ℕ) (x : X) → i < length xs → x ≡ slice_index_or xs i x → slice_get xs i ≡ Some x
get_of_index {X} [] i x less e = absurd (omega arith)
get_of_index {X} (w ∷ xs) zero x less e = ap (λ (y : X). Some y) (sym e)
get_of_index {X} (w ∷ xs) (suc i) x less e = get_of_index xs i x (omega arith) e
