-- Searches over the places of an order.
use Rattle.std.proofs.Common.{◌≡◌, ℕ, suc, ◌-◌, ◌<◌, List, Some, slice_get, length, subst, arith}
use native.Mathlib.Decide.{dec_lt}
use mathlib.Core.Logic.{dite}
use Rattle.std.proofs.lemmas.Option.{slice_get_within}
use Rattle.c11_events.specs.Lawful.{Precedes, IsNext}
use Rattle.c11_plain.specs.Orders.{StandsBefore, HasNoRepeat}

-- y stands at j, and x before it
abbrev pub PrecedesAt : List ℕ → ℕ → ℕ → ℕ → Type 0
PrecedesAt order x y j = (slice_get order j ≡ Some y) × StandsBefore order j x

pub precedes_at : (order : List ℕ) (x y : ℕ) → ((j : ℕ) × PrecedesAt order x y j) → Precedes order x y
precedes_at order x y t = let s = t.1.1 in record { i = s.0; j = t.0; first = s.1.1; second = t.1.0; places = s.1.0 }

pub at_precedes : (order : List ℕ) (x y : ℕ) → Precedes order x y → (j : ℕ) × PrecedesAt order x y j
at_precedes order x y p = (p.j, (p.second, (p.i, (p.places, p.first))))

-- x and y stand at j - 1 and j
abbrev pub NextAt : List ℕ → ℕ → ℕ → ℕ → Type 0
NextAt order x y j = (0 < j) × ((slice_get order (j - 1) ≡ Some x) × (slice_get order j ≡ Some y))

pub next_at : (order : List ℕ) (x y : ℕ) → ((j : ℕ) × NextAt order x y j) → IsNext order x y
next_at order x y t =
    let e : t.0 ≡ suc (t.0 - 1) = omega (arith, t.1.0) in
    record { place = t.0 - 1; first = t.1.1.0; second = subst (λ (z : ℕ). slice_get order z ≡ Some y) e t.1.1.1 }

pub at_next : (order : List ℕ) (x y : ℕ) → IsNext order x y → (j : ℕ) × NextAt order x y j
at_next order x y n =
    let e : n.place ≡ suc n.place - 1 = omega arith in
    (suc n.place, (omega arith, (subst (λ (z : ℕ). slice_get order z ≡ Some x) e n.first, n.second)))

-- what stands at the place stands before it too
abbrev pub Repeats : List ℕ → ℕ → Type 0
Repeats order j = (x : ℕ) × ((slice_get order j ≡ Some x) × StandsBefore order j x)

pub no_repeats : (order : List ℕ) → ((j : ℕ) → j < length order → Repeats order j → ⊥) → HasNoRepeat order
no_repeats order none i j x at_i at_j = dite (dec_lt i j)
    (λ (lt : i < j). absurd (none j (slice_get_within order j x at_j) (x, (at_j, (i, (lt, at_i))))))
    (λ (le : i < j → ⊥). dite (dec_lt j i)
    (λ (lt : j < i). absurd (none i (slice_get_within order i x at_i) (x, (at_i, (j, (lt, at_j))))))
    (λ (ge : j < i → ⊥). omega arith))

pub repeats_no : (order : List ℕ) → HasNoRepeat order → (j : ℕ) → j < length order → Repeats order j → ⊥
repeats_no order once j lt r = let s = r.1.1 in let e = once s.0 j r.0 s.1.1 r.1.0 in omega (arith, s.1.0, e)
