-- The stores that are offered.
use Rattle.std.proofs.Common.{◌≡◌, ℕ, zero, suc, ◌+◌, ◌<◌, ◌≤◌, ◌^◌, List, [], ◌∷◌, Option, Some, None, length, slice_get, refl, ap, arith}
use Rattle.std.specs.Prelude.{IsSome, MatchOption, IfOk, Result, Ok, Err}
use Rattle.std.proofs.lemmas.Option.{slice_get_within}
use Rattle.c11_events.specs.declared.event.Event.{Event}
use Rattle.c11_events.specs.declared.event.EventKind.{EventKind}
use Rattle.c11_events.specs.declared.op.Op.{Op}
use Rattle.c11_events.specs.declared.op.Op.TheVariants as op
use Rattle.c11_events.specs.Events.{event_at, IsStore}
use Rattle.c11_events.specs.Offered.{Offered, ChainOffered, IsRisingList, op_cell, op_reading}
use Rattle.c11_events.specs.Replies.{Setting}
use Rattle.c11_events.proofs.Agreement.{offers_agree}
use Rattle.c11_mayread.specs.Standing as reading
use Rattle.c11_history.specs.Past.{IsWithin, AreOffers}

-- an operation reads an atomic cell of the setting alone
pub cell_within : (setting : Setting) (mutexes : ℕ) (o : Op) (cell : ℕ) → IsWithin setting mutexes o → op_cell o ≡ Some cell → cell < length setting.atomic
cell_within setting mutexes (op.AtomicLoad c order) cell within is = let same : c ≡ cell = cc in omega arith
cell_within setting mutexes (op.Rmw c order kind operand) cell within is = let same : c ≡ cell = cc in omega arith
cell_within setting mutexes (op.CompareExchange c success failure weak expected desired) cell within is = let same : c ≡ cell = cc in omega arith
cell_within setting mutexes _ cell within is = cc

below : (events : List Event) (x : ℕ) (e : Event) → event_at events x ≡ Some e → x ≤ length events
below events zero e is = omega arith
below events (suc i) e is = omega (arith, slice_get_within events i e is)

get : (xs : List ℕ) (i : ℕ) → i < length xs → (x : ℕ) × (slice_get xs i ≡ Some x)
get [] i lt = absurd (omega arith)
get (x ∷ xs) zero lt = (x, refl)
get (x ∷ xs) (suc i) lt = get xs i (omega arith)

-- a rising list has no more members than its largest can have below it
climbs : {P : ℕ → Type 0} (xs : List ℕ) → IsRisingList P xs → (i x : ℕ) → slice_get xs i ≡ Some x → i ≤ x
climbs xs rising zero x at = omega arith
climbs xs rising (suc i) x at =
    let before = get xs i (omega (arith, slice_get_within xs (suc i) x at)) in
    omega (arith, climbs xs rising i before.0 before.1, rising.rises i (suc i) before.0 x before.1 at (omega arith))

few_offered : (events : List Event) (thread : ℕ) (reading : ℕ → EventKind) (cell : ℕ) (offers : List ℕ) → ChainOffered events thread reading cell offers → length offers ≤ length events + 1
few_offered events thread reading cell [] rising = omega arith
few_offered events thread reading cell (x ∷ xs) rising =
    let last = get (x ∷ xs) (length xs) (omega arith) in
    let store = (rising.only (length xs) last.0 last.1).store in
    omega (arith, climbs (x ∷ xs) rising (length xs) last.0 last.1, below events last.0 store.event store.is)

by_cell : (events : List Event) (thread : ℕ) (o : Op) (offers : List ℕ) (cell : Option ℕ) → op_cell o ≡ cell
    → ((cell : ℕ) → op_cell o ≡ Some cell → ChainOffered events thread (op_reading events o) cell offers) → (op_cell o ≡ None → offers ≡ [])
    → MatchOption cell (offers ≡ []) (λ cell. Offered events thread (op_reading events o) cell offers) × (length offers ≤ length events + 1)
by_cell events thread o offers None is offered none = (none is, omega (arith, ap (λ (l : List ℕ). length l) (none is)))
by_cell events thread o offers (Some cell) is offered none =
    ((offers_agree events thread (op_reading events o) cell offers).1 (offered cell is), few_offered events thread (op_reading events o) cell offers (offered cell is))

-- the offers of what is kept, by the events for which that stands
module _ {E : Type 0} (reads : reading.Words) (events : List Event) (stands : reading.StandsFor reads events) (thread : ℕ) (o : Op) where
  pub are_offers : (r : Result (List ℕ) E)
      → IfOk r (λ offers. (events : List Event) (cell : ℕ) → reading.StandsFor reads events → op_cell o ≡ Some cell → ChainOffered events thread (op_reading events o) cell offers)
      → IfOk r (λ offers. op_cell o ≡ None → offers ≡ []) → IfOk r (λ offers. AreOffers events thread o offers)
  are_offers (Ok offers) offered none = (by_cell events thread o offers (op_cell o) refl (λ cell. offered events cell stands) none).0
  are_offers (Err e) offered none = tt

  pub few_offers : (r : Result (List ℕ) E)
      → IfOk r (λ offers. (events : List Event) (cell : ℕ) → reading.StandsFor reads events → op_cell o ≡ Some cell → ChainOffered events thread (op_reading events o) cell offers)
      → IfOk r (λ offers. op_cell o ≡ None → offers ≡ []) → length events ≤ 14096 → IfOk r (λ offers. length offers < 2 ^ 32)
  few_offers (Ok offers) offered none few =
      let least = (by_cell events thread o offers (op_cell o) refl (λ cell. offered events cell stands) none).1 in
      omega arith
  few_offers (Err e) offered none few = tt

  pub some_offers : (r : Result (List ℕ) E) (setting : Setting) (mutexes : ℕ) → IsWithin setting mutexes o → ((cell : ℕ) → cell < length setting.atomic → IsStore events cell (suc cell))
      → IfOk r (λ offers. (events : List Event) (cell s : ℕ) → reading.StandsFor reads events → op_cell o ≡ Some cell → IsStore events cell s → 0 < length offers)
      → IfOk r (λ offers. IsSome (op_cell o) → 0 < length offers)
  some_offers (Ok offers) setting mutexes within stores some = one (op_cell o) refl
    where
      one : (cell : Option ℕ) → op_cell o ≡ cell → IsSome cell → 0 < length offers
      one None is none = cc
      one (Some cell) is reads_one = some events cell (suc cell) stands is (stores cell (cell_within setting mutexes o cell within is))
  some_offers (Err e) setting mutexes within stores some = tt
