-- The stores of a cell, as the graph lists them.
use Rattle.std.proofs.Common.{◌≡◌, ℕ, zero, suc, ◌<◌, Bool, true, false, nat_eq, if◌then◌else◌, List, [], ◌∷◌, ◌++◌, Some, slice_get, refl, ap, ◌∙◌, subst, arith, ◌⊎◌, inl, inr}
use Rattle.std.proofs.lemmas.Bool.{eqb-true}
use Rattle.std.proofs.lemmas.Bool.Decides.{eqb_tells}
use Rattle.c11_events.specs.declared.event.Event.{Event}
use Rattle.c11_events.specs.Events.{IsStore, ReadsEarlier}
use Rattle.c11_mograph.specs.Made.{Store, Made, IsAdded, stores_of}
use Rattle.c11_mograph.specs.Words.{WellMade}
use Rattle.c11_mograph.proofs.Chains.{Rises}
use Rattle.c11_mayread.specs.Agreement.{Agrees}
use Rattle.c11_mayread.specs.Priors.{In}
use Rattle.c11_mayread.proofs.Agreeing.{added_of_cell, agrees_within, event_of}

-- a list with one number more in front, where a condition holds
abbrev front : Bool → ℕ → List ℕ → List ℕ
front b n rest = (if b then n ∷ [] else []) ++ rest

front_cases : (b : Bool) (n : ℕ) (rest : List ℕ) (i x : ℕ) → slice_get (front b n rest) i ≡ Some x → ((b ≡ true) × (n ≡ x)) ⊎ In rest x
front_cases true n rest zero x at = inl (refl, let same : n ≡ x = cc in same)
front_cases true n rest (suc i) x at = inr (i, at)
front_cases false n rest i x at = inr (i, at)

front_here : (b : Bool) (n : ℕ) (rest : List ℕ) → b ≡ true → In (front b n rest) n
front_here true n rest is = (zero, refl)
front_here false n rest is = cc

front_behind : (b : Bool) (n : ℕ) (rest : List ℕ) (x : ℕ) → In rest x → In (front b n rest) x
front_behind true n rest x i = (suc i.0, i.1)
front_behind false n rest x i = i

front_rises : (b : Bool) (n : ℕ) (rest : List ℕ) → ((i j x y : ℕ) → slice_get rest i ≡ Some x → slice_get rest j ≡ Some y → i < j → x < y) → ((y : ℕ) → In rest y → n < y)
    → (i j x y : ℕ) → slice_get (front b n rest) i ≡ Some x → slice_get (front b n rest) j ≡ Some y → i < j → x < y
front_rises true n rest deeper first zero zero x y at at' lt = absurd (omega arith)
front_rises true n rest deeper first zero (suc j) x y at at' lt = let same : n ≡ x = cc in subst (λ (z : ℕ). z < y) same (first y (j, at'))
front_rises true n rest deeper first (suc i) zero x y at at' lt = absurd (omega arith)
front_rises true n rest deeper first (suc i) (suc j) x y at at' lt = deeper i j x y at at' (omega arith)
front_rises false n rest deeper first i j x y at at' lt = deeper i j x y at at' lt

module _ (cell : ℕ) where
  abbrev pub Of : List Store → ℕ → Type 0
  Of stores x = IsAdded stores x (λ s. s.cell ≡ cell)

  pub listed_added : (stores : List Store) (i x : ℕ) → slice_get (stores_of cell stores) i ≡ Some x → Of stores x
  listed_added [] i x at = cc
  listed_added (s ∷ ss) i x at = elim (front_cases (nat_eq s.cell cell) s.number (stores_of cell ss) i x at) [
    | inl p ↦ record { place = zero; store = s; is = refl; number = p.1; holds = eqb-true s.cell cell p.0 }
    | inr q ↦ (let t = listed_added ss q.0 x q.1 in record { place = suc t.place; store = t.store; is = t.is; number = t.number; holds = t.holds })
  ]

  at_listed : (stores : List Store) (place : ℕ) (s : Store) → slice_get stores place ≡ Some s → s.cell ≡ cell → In (stores_of cell stores) s.number
  at_listed [] place s at own = cc
  at_listed (u ∷ us) zero s at own =
      let same : u ≡ s = cc in
      let is : nat_eq u.cell cell ≡ true = elim (eqb_tells u.cell cell) [ inl t ↦ t.0 | inr f ↦ absurd (f.1 (ap (λ (v : Store). v.cell) same ∙ own)) ] in
      subst (λ (n : ℕ). In (stores_of cell (u ∷ us)) n) (ap (λ (v : Store). v.number) same) (front_here (nat_eq u.cell cell) u.number (stores_of cell us) is)
  at_listed (u ∷ us) (suc place) s at own = front_behind (nat_eq u.cell cell) u.number (stores_of cell us) s.number (at_listed us place s at own)

  pub added_listed : (stores : List Store) (x : ℕ) → Of stores x → In (stores_of cell stores) x
  added_listed stores x t = subst (λ (n : ℕ). In (stores_of cell stores) n) t.number (at_listed stores t.place t.store t.is t.holds)

  pub listed_rise : (stores : List Store) → Rises stores → (i j x y : ℕ) → slice_get (stores_of cell stores) i ≡ Some x → slice_get (stores_of cell stores) j ≡ Some y → i < j → x < y
  listed_rise [] rises i j x y at at' lt = cc
  listed_rise (s ∷ ss) rises i j x y at at' lt = front_rises (nat_eq s.cell cell) s.number (stores_of cell ss)
      (listed_rise ss (λ i' j' u v at_u at_v less. rises (suc i') (suc j') u v at_u at_v (omega arith)))
      (λ z member. let t = listed_added ss member.0 z member.1 in
      subst (λ (n : ℕ). s.number < n) t.number (rises zero (suc t.place) s t.store refl t.is (omega arith))) i j x y at at' lt

  module _ (m : Made) (events : List Event) (reads : ReadsEarlier events) (well : WellMade m) (agrees : Agrees m events) where
    pub listed_store : (i x : ℕ) → slice_get (stores_of cell m.stores) i ≡ Some x → IsStore events cell x
    listed_store i x at =
        let t = listed_added m.stores i x at in
        let e = event_of m events reads (agrees_within m events well agrees) x (λ s. s.cell ≡ cell) t in
        record { event = e.event; is = e.is; holds = e.holds.cell ∙ ap (λ (k : ℕ). Some k) t.holds }

    pub store_listed : (x : ℕ) → IsStore events cell x → In (stores_of cell m.stores) x
    store_listed x s = added_listed m.stores x (added_of_cell m events well agrees cell x s)
