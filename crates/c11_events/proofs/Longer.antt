-- A list with one event more.
use Rattle.std.proofs.Common.{◌≡◌, ℕ, suc, ◌<◌, ◌≤◌, List, [], ◌∷◌, ◌++◌, Some, slice_get, length, refl, sym, ap, ◌∙◌, subst, arith, ◌⊎◌, inl, inr}
use Rattle.std.proofs.lemmas.List.{length-append}
use native.Mathlib.Decide.{dec_le}
use mathlib.Core.Logic.{dite}
use Rattle.c11_events.specs.declared.event.Event.{Event}
use Rattle.c11_events.specs.Events.{At, event_at, IsStore, ReadsEarlier, stored_cell, loaded_cell}
use Rattle.c11_events.specs.Chains.{Cause, write_write, write_read, read_write, read_read, seq_cst, fenced_read, fenced_write}
use Rattle.c11_events.proofs.Basics.{at_same}
use Rattle.c11_events.proofs.DecideEvents.{at_below}
use Rattle.c11_events.proofs.Keeps.{fenced_rises}
use Rattle.c11_events.proofs.Rises.{hb_rises}

pub get_last : {X : Type 0} (xs : List X) (y : X) → slice_get (xs ++ y ∷ []) (length xs) ≡ Some y
get_last [] y = refl
get_last (x ∷ xs) y = get_last xs y

-- what must precede something is not the last event
pub cause_below : (events : List Event) (cell a b : ℕ) → ReadsEarlier events → IsStore events cell b → Cause events cell a b → a < length events
cause_below events cell a b reads sb (write_write h) = omega (arith, hb_rises events a b reads h, at_below events b (λ e. stored_cell e.kind ≡ Some cell) sb)
cause_below events cell a b reads sb (write_read {l = l} h load) = omega (arith, hb_rises events a l reads h, at_below events l (λ e. (loaded_cell e.kind ≡ Some cell) × (e.from ≡ b)) load)
cause_below events cell a b reads sb (read_write {l = l} load h) = omega (arith, (reads cell l a load).1, at_below events l (λ e. (loaded_cell e.kind ≡ Some cell) × (e.from ≡ a)) load)
cause_below events cell a b reads sb (read_read {l = l} {k = k} load load' h) = omega (arith, (reads cell l a load).1, at_below events l (λ e. (loaded_cell e.kind ≡ Some cell) × (e.from ≡ a)) load)
cause_below events cell a b reads sb (seq_cst s) = omega (arith, s.earlier, at_below events b (λ e. stored_cell e.kind ≡ Some cell) sb)
cause_below events cell a b reads sb (fenced_read {l = l} f load) = omega (arith, fenced_rises events a l f, at_below events l (λ e. (loaded_cell e.kind ≡ Some cell) × (e.from ≡ b)) load)
cause_below events cell a b reads sb (fenced_write f) = omega (arith, fenced_rises events a b f, at_below events b (λ e. stored_cell e.kind ≡ Some cell) sb)

-- a store has one cell
pub store_cell : (events : List Event) (x c d : ℕ) → IsStore events c x → IsStore events d x → c ≡ d
store_cell events x c d s t =
    let same = at_same events x s.event t.event s.is t.is in
    let both : Some c ≡ Some d = sym s.holds ∙ (ap (λ (f : Event). stored_cell f.kind) same ∙ t.holds) in cc

pub new_is : (events : List Event) (e : Event) → event_at (events ++ e ∷ []) (suc (length events)) ≡ Some e
new_is events e = get_last events e

-- an event is of the old list or the new one
pub old_or_new : (events : List Event) (e : Event) (a : ℕ) (P : Event → Type 0) → At (events ++ e ∷ []) a P → (a ≤ length events) ⊎ ((a ≡ suc (length events)) × P e)
old_or_new events e a P t = dite (dec_le a (length events)) (λ (le : a ≤ length events). inl le)
    (λ (no' : a ≤ length events → ⊥).
    let end : a ≡ suc (length events) = omega (arith, at_below (events ++ e ∷ []) a P t, length-append events (e ∷ [])) in
    let same = at_same (events ++ e ∷ []) a t.event e t.is (ap (λ (k : ℕ). event_at (events ++ e ∷ []) k) end ∙ new_is events e) in
    inr (end, subst P same t.holds))
