-- The sizes of clocks and of tables of clocks.
use Rattle.std.proofs.Common.{◌≡◌, ℕ, ◌<◌, Bool, true, false, ◌&&◌, List, [], length, nat_eq, nat_lt, slice_index, slice_index_or, slice_set, refl, sym, ap, ◌∙◌, subst, arith}
use Rattle.std.specs.Prelude.{if◌then◌else◌}
use Rattle.std.specs.Prelude.{Vec}
use Rattle.std.specs.Vec.{with_items}
use Rattle.std.proofs.lemmas.List.{with_items_is, get_or_default, get_or-set_same, get_or-set_other, length-set}
use native.Mathlib.Decide.{ℕ_discrete}
use mathlib.Core.Logic.{dite}
use Rattle.c11_clock.specs.Clocks.{joined}
use Rattle.c11_happens.specs.Noting.{row, AreWide, started}

pub row_at : (table : List (List ℕ)) (i : ℕ) (clock : List ℕ) → i < length table → row (slice_set table i clock) i ≡ clock
row_at table i clock lt = get_or-set_same table i clock [] lt

pub row_else : (table : List (List ℕ)) (i : ℕ) (clock : List ℕ) (j : ℕ) → (j ≡ i → ⊥) → row (slice_set table i clock) j ≡ row table j
row_else table i clock j other = get_or-set_other table i j clock [] other

-- what holds of the new clock at its place, and elsewhere of the old ones, holds of the changed table
pub row_set : (P : List ℕ → Type 0) (table : List (List ℕ)) (i : ℕ) (clock : List ℕ) (j : ℕ) → i < length table → (j ≡ i → P clock) → ((j ≡ i → ⊥) → P (row table j)) → P (row (slice_set table i clock) j)
row_set P table i clock j lt here elsewhere = dite (ℕ_discrete j i)
    (λ (same : j ≡ i). subst (λ (k : ℕ). P (row (slice_set table i clock) k)) (sym same) (subst P (sym (row_at table i clock lt)) (here same)))
    (λ (other : j ≡ i → ⊥). subst P (sym (row_else table i clock j other)) (elsewhere other))

pub wide_set : (threads : ℕ) (table : List (List ℕ)) (i : ℕ) (clock : List ℕ) → AreWide threads table → length clock ≡ threads → AreWide threads (slice_set table i clock)
wide_set threads table i clock wide size j lt = dite (ℕ_discrete j i)
    (λ (same : j ≡ i). subst (λ (k : ℕ). length (row (slice_set table i clock) k) ≡ threads) (sym same)
    (ap (λ (c : List ℕ). length c) (row_at table i clock (omega (arith, length-set table i clock))) ∙ size))
    (λ (other : j ≡ i → ⊥). ap (λ (c : List ℕ). length c) (row_else table i clock j other) ∙ wide j (omega (arith, length-set table i clock)))

pub set_length : (n : ℕ) (table : List (List ℕ)) (i : ℕ) (clock : List ℕ) → length table ≡ n → length (slice_set table i clock) ≡ n
set_length n table i clock size = length-set table i clock ∙ size

pub width_at : (threads : ℕ) (table : List (List ℕ)) (i : ℕ) (d : List ℕ) → AreWide threads table → i < length table → length (slice_index_or table i d) ≡ threads
width_at threads table i d wide lt = ap (λ (c : List ℕ). length c) (get_or_default table i d [] lt) ∙ wide i lt

-- a vector after a change of its slice at one place
pub with_set : {Z : Type 0} (v : Vec (List ℕ) Z) (ws : List (List ℕ)) (i : ℕ) (clock : List ℕ) → ws ≡ slice_set v.items i clock → (with_items v ws).items ≡ slice_set v.items i clock
with_set v ws i clock e = with_items_is v ws (ap (λ (l : List (List ℕ)). length l) e ∙ (length-set v.items i clock ∙ sym v.ok.0)) ∙ e

pub length_started : (known : List (List ℕ)) (own_clock : List ℕ) (b : Bool) (thread : ℕ) → length (if b then started known own_clock thread else known) ≡ length known
length_started known own_clock false thread = refl
length_started known own_clock true thread = by_test (nat_lt thread (length known) && nat_eq (slice_index (row known thread) thread) 0)
  where
    by_test : (b : Bool) → length (if b then slice_set known thread (joined (row known thread) own_clock) else known) ≡ length known
    by_test true = length-set known thread (joined (row known thread) own_clock)
    by_test false = refl
