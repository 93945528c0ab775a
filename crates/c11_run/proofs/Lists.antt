-- Lists with one element more, and rising lists.
use Rattle.std.proofs.Common.{◌≡◌, ℕ, zero, suc, ◌+◌, ◌<◌, ◌≤◌, List, [], ◌∷◌, ◌++◌, Some, length, slice_get, slice_set, refl, sym, ap, ◌∙◌, subst, arith, inl, inr, ◌⊎◌}
use native.Mathlib.Decide.{dec_lt}
use mathlib.Core.Logic.{dite}
use Rattle.c11_events.proofs.Longer.{get_last}
use Rattle.c11_events.proofs.Prefix.{get_more}
use Rattle.c11_events.specs.Offered.{IsRisingList}

pub no_later : {X : Type 0} (xs : List X) (i : ℕ) (e : X) → length xs ≤ i → slice_get xs i ≡ Some e → ⊥
no_later [] i e le at = cc
no_later (x ∷ xs) zero e le at = omega arith
no_later (x ∷ xs) (suc i) e le at = no_later xs i e (omega arith) at

-- what stands in a list with one more is of the list, or the one more at its end
pub old_or_end : {X : Type 0} (xs : List X) (x : X) (i : ℕ) (e : X) → slice_get (xs ++ x ∷ []) i ≡ Some e → (slice_get xs i ≡ Some e) ⊎ ((i ≡ length xs) × (x ≡ e))
old_or_end [] x zero e at = inr (refl, cc)
old_or_end [] x (suc i) e at = cc
old_or_end (y ∷ xs) x zero e at = inl at
old_or_end (y ∷ xs) x (suc i) e at = elim (old_or_end xs x i e at) [ inl old ↦ inl old | inr end ↦ inr (ap suc end.0, end.1) ]

pub rising_none : (P : ℕ → Type 0) → IsRisingList (λ u. (u < 0) × P u) []
rising_none P = record { rises = λ i j x y at at' lt. cc; only = λ i x at. cc; all = λ x p. absurd (omega (arith, p.0)) }

-- the rising list of those below a bound
module _ (P : ℕ → Type 0) (n : ℕ) (xs : List ℕ) (r : IsRisingList (λ u. (u < n) × P u) xs) where
  pub rising_same : (P n → ⊥) → IsRisingList (λ u. (u < n + 1) × P u) xs
  rising_same not = record {
    rises = r.rises;
    only = λ i x at. let p = r.only i x at in (omega (arith, p.0), p.1);
    all = λ x p. dite (dec_lt x n) (λ (lt : x < n). r.all x (lt, p.1))
        (λ (ge : x < n → ⊥). let same : x ≡ n = omega (arith, p.0) in absurd (not (subst P same p.1)));
  }

  pub rising_more : P n → IsRisingList (λ u. (u < n + 1) × P u) (xs ++ n ∷ [])
  rising_more there = record {
    rises = λ i j x y at at' lt. elim (old_or_end xs n j y at') [
      | inl old' ↦ elim (old_or_end xs n i x at) [
        | inl old ↦ r.rises i j x y old old' lt
        | inr end ↦ absurd (no_later xs j y (omega arith) old')
      ]
      | inr end' ↦ elim (old_or_end xs n i x at) [
        | inl old ↦ omega (arith, (r.only i x old).0)
        | inr end ↦ absurd (omega arith)
      ]
    ];
    only = λ i x at. elim (old_or_end xs n i x at) [
      | inl old ↦ let p = r.only i x old in (omega (arith, p.0), p.1)
      | inr end ↦ (omega arith, subst P end.1 there)
    ];
    all = λ x p. dite (dec_lt x n)
        (λ (lt : x < n). let t = r.all x (lt, p.1) in (t.0, get_more xs (n ∷ []) t.0 x t.1))
        (λ (ge : x < n → ⊥). let same : n ≡ x = omega (arith, p.0) in (length xs, get_last xs n ∙ ap (λ (m : ℕ). Some m) same));
  }

  pub rising_all : ((u : ℕ) → P u → u < n) → IsRisingList P xs
  rising_all below = record { rises = r.rises; only = λ i x at. (r.only i x at).1; all = λ x p. r.all x (below x p, p) }

-- what holds of each element holds of each with one more
pub each_more : {X : Type 0} (P : X → Type 0) (xs : List X) (x : X) → ((u : ℕ) (y : X) → slice_get xs u ≡ Some y → P y) → P x → (u : ℕ) (y : X) → slice_get (xs ++ x ∷ []) u ≡ Some y → P y
each_more P xs x each last u y at = elim (old_or_end xs x u y at) [ inl old ↦ each u y old | inr end ↦ subst P end.1 last ]

-- the elements of a list of which one was set
pub set_at : {X : Type 0} (xs : List X) (i j : ℕ) (v w : X) → slice_get (slice_set xs i v) j ≡ Some w → ((j ≡ i) × (v ≡ w)) ⊎ ((j ≡ i → ⊥) × (slice_get xs j ≡ Some w))
set_at [] i j v w at = cc
set_at (x ∷ xs) zero zero v w at = inl (refl, cc)
set_at (x ∷ xs) zero (suc j) v w at = inr (λ e. omega arith, at)
set_at (x ∷ xs) (suc i) zero v w at = inr (λ e. omega arith, at)
set_at (x ∷ xs) (suc i) (suc j) v w at = elim (set_at xs i j v w at) [ inl p ↦ inl (ap suc p.0, p.1) | inr p ↦ inr (λ e. p.0 (omega arith), p.1) ]

pub set_same : {X : Type 0} (xs : List X) (i : ℕ) (x : X) → slice_get xs i ≡ Some x → slice_set xs i x ≡ xs
set_same {X} [] i x at = cc
set_same {X} (y ∷ xs) zero x at = let same : y ≡ x = cc in ap (λ (z : X). z ∷ xs) (sym same)
set_same {X} (y ∷ xs) (suc i) x at = ap (λ (zs : List X). y ∷ zs) (set_same xs i x at)
