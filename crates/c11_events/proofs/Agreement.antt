-- The last store of a cell in a lawful order is offered.
use Rattle.std.proofs.Common.{◌≡◌, ℕ, zero, suc, ◌+◌, ◌<◌, ◌≤◌, List, [], ◌∷◌, ◌++◌, Some, slice_get, length, refl, ap, arith, ◌⊎◌, inl, inr}
use native.Mathlib.Decide.{ℕ_discrete}
use mathlib.Core.Logic.{dite}
use Rattle.c11_events.specs.declared.event.EventKind.{EventKind}
use Rattle.c11_events.specs.declared.event.Event.{Event}
use Rattle.c11_events.specs.Events.{IsStore, stored_cell, loaded_cell}
use Rattle.c11_events.specs.HappensBefore.{HappensBefore, IsSeqCst}
use Rattle.c11_events.specs.Lawful.{Precedes, Consistent, IsLastSeqCst}
use Rattle.c11_events.specs.Chains.{Reach}
use Rattle.c11_events.specs.Offered.{extended, IsOffered, IsChainOffered}
use Rattle.c11_events.specs.Priors.{Fits}
use Rattle.c11_events.specs.Lawful.{IsLastOf}
use Rattle.c11_events.specs.Laws.{LastIsOffered, SomeIsOffered, OffersAgree}
use Rattle.c11_events.proofs.DecideEvents.{at_below}
use Rattle.c11_events.proofs.Fitting.{reads_all, fits_lawful}
use Rattle.c11_events.proofs.Necessary.{chain_lawful}
use Rattle.c11_events.proofs.Prefix.{store_more, store_less, hb_less, seq_less}
use Rattle.c11_events.proofs.Reaches.{reach_before}
use Rattle.c11_events.proofs.Sufficient.{consistent}

get_within : {X : Type 0} (xs : List X) (i : ℕ) (x : X) → slice_get xs i ≡ Some x → i < length xs
get_within [] i x at = cc
get_within (y ∷ xs) zero x at = omega arith
get_within (y ∷ xs) (suc i) x at = omega (arith, get_within xs i x at)

module _ (events : List Event) (e : Event) (cell : ℕ) (c : Consistent events) (last : IsLastOf (c.orders cell) e.from) (loads : loaded_cell e.kind ≡ Some cell) where
  store : IsStore events cell e.from
  store = (c.lawful cell).stores.only e.from last.place last.is

  not_after : (a : ℕ) → Precedes (c.orders cell) e.from a → ⊥
  not_after a b = omega (arith, get_within (c.orders cell) b.j a b.second, last.last, b.places, (c.lawful cell).stores.once b.i last.place e.from b.first last.is)

  not_reached : (a : ℕ) → Reach events cell e.from a → ⊥
  not_reached a r = not_after a (reach_before events cell (c.orders cell) (c.lawful cell) e.from a r)

  seq_new : (a : ℕ) → IsLastSeqCst (events ++ e ∷ []) cell (suc (length events)) a → (e.from ≡ a) ⊎ ((IsSeqCst (events ++ e ∷ []) e.from → ⊥) × (HappensBefore (events ++ e ∷ []) e.from a → ⊥))
  seq_new a s =
      let le : a ≤ length events = omega (arith, s.before.earlier) in
      let below = at_below events e.from (λ f. stored_cell f.kind ≡ Some cell) store in
      let sa : IsStore events cell a = store_less events (e ∷ []) cell a le s.store in
      dite (ℕ_discrete e.from a) (λ (is : e.from ≡ a). inl is) (λ (differ : e.from ≡ a → ⊥). inr (
        (λ t. let back = s.last e.from (store_more events (e ∷ []) cell e.from store) (record { first = t; second = s.before.second; earlier = below }) in
            not_after a ((c.lawful cell).seq_cst_write_order e.from a store sa
            (record { first = seq_less events (e ∷ []) e.from (omega (arith, below)) t; second = seq_less events (e ∷ []) a le s.before.first; earlier = omega (arith, back, differ) }))),
        (λ h. not_after a ((c.lawful cell).write_write_coherence e.from a store sa (hb_less events (e ∷ []) (reads_all events e cell (chain_lawful events c) store loads) e.from a le h))),
      ))

  fits : Fits events e cell
  fits = record {
    prior_read = λ a m r. not_reached a r;
    prior_write = λ a differ m r. not_reached a r;
    ends_chain = λ r b s. let n = (c.lawful cell).rmw_atomicity b e.from s in not_after b (record { i = n.place; j = suc n.place; first = n.first; second = n.second; places = omega arith });
    seq_cst_read = seq_new;
  }

  pub extends : Consistent (events ++ e ∷ [])
  extends = consistent (events ++ e ∷ []) (fits_lawful events e cell (chain_lawful events c) store loads fits)

pub last_offered : LastIsOffered
last_offered events thread reading cell x c last loads = record {
  store = (c.lawful cell).stores.only x last.place last.is;
  consistent = extends events (record { number = length events + 1; thread = thread; kind = reading x; from = x }) cell c last loads;
}

-- a list with a member has a last one
last_of : (order : List ℕ) (i s : ℕ) → slice_get order i ≡ Some s → (x : ℕ) × IsLastOf order x
last_of [] i s at = cc
last_of (y ∷ []) i s at = (y, record { place = 0; is = refl; last = refl })
last_of (y ∷ z ∷ zs) i s at = let l = last_of (z ∷ zs) 0 z refl in (l.0, record { place = suc l.1.place; is = l.1.is; last = ap (λ (k : ℕ). suc k) l.1.last })

pub some_offered : SomeIsOffered
some_offered events thread reading cell s c store loads =
    let p = (c.lawful cell).stores.all s store in
    let l = last_of (c.orders cell) p.0 s p.1 in
    (l.0, last_offered events thread reading cell l.0 c l.1 (loads l.0))

to_chain : (events : List Event) (thread : ℕ) (reading : ℕ → EventKind) (cell x : ℕ) → IsOffered events thread reading cell x → IsChainOffered events thread reading cell x
to_chain events thread reading cell x o = record { store = o.store; lawful = chain_lawful (extended events thread reading x) o.consistent }

from_chain : (events : List Event) (thread : ℕ) (reading : ℕ → EventKind) (cell x : ℕ) → IsChainOffered events thread reading cell x → IsOffered events thread reading cell x
from_chain events thread reading cell x o = record { store = o.store; consistent = consistent (extended events thread reading x) o.lawful }

pub offers_agree : OffersAgree
offers_agree events thread reading cell offers = (
  (λ o. record { rises = o.rises; only = λ i x at. to_chain events thread reading cell x (o.only i x at); all = λ x p. o.all x (from_chain events thread reading cell x p) }),
  (λ o. record { rises = o.rises; only = λ i x at. from_chain events thread reading cell x (o.only i x at); all = λ x p. o.all x (to_chain events thread reading cell x p) }),
)
