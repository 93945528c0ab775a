-- What a lone thread's next read is offered.
use Rattle.std.proofs.Common.{◌≡◌, ℕ, suc, ◌+◌, ◌<◌, ◌≤◌, List, [], ◌∷◌, Some, length, refl, sym, ◌∙◌, subst, arith, inl}
use native.Mathlib.Decide.{dec_le}
use mathlib.Core.Logic.{dite}
use Rattle.c11_events.specs.declared.event.Event.{Event}
use Rattle.c11_events.specs.declared.event.EventKind.{EventKind}
use Rattle.c11_events.specs.Closure.{one}
use Rattle.c11_events.specs.Events.{event_at, IsStore, IsLoad, stored_cell, loaded_cell}
use Rattle.c11_events.specs.HappensBefore.{HappensBefore, AreOfThread}
use Rattle.c11_events.specs.Lawful.{Consistent, IsLastStore}
use Rattle.c11_events.specs.Offered.{extended, IsOffered}
use Rattle.c11_events.specs.Laws.{OneThreadReadsLast}
use Rattle.c11_events.proofs.Agreement.{some_offered}
use Rattle.c11_events.proofs.DecideEvents.{at_below}
use Rattle.c11_events.proofs.Longer.{new_is}
use Rattle.c11_events.proofs.Prefix.{event_more, store_more}

module _ (events : List Event) (thread : ℕ) (reading : ℕ → EventKind) (cell : ℕ) (one_of : AreOfThread events thread) (loads : (y : ℕ) → loaded_cell (reading y) ≡ Some cell) where
  -- a store of the longer list
  old_store : (x y : ℕ) → IsStore events cell y → IsStore (extended events thread reading x) cell y
  old_store x y s = store_more events (record { number = length events + 1; thread = thread; kind = reading x; from = x } ∷ []) cell y s

  -- what stands before the new event is of the same thread
  in_order : (x y n : ℕ) (e f : Event) → event_at (extended events thread reading x) y ≡ Some e → event_at (extended events thread reading x) n ≡ Some f → e.thread ≡ thread → f.thread ≡ thread → y < n
      → HappensBefore (extended events thread reading x) y n
  in_order x y n e f is is' same same' lt = one (inl (record { thread = record { event = e; is = is; holds = record { event = f; is = is'; holds = same ∙ sym same' } }; earlier = lt }))

  -- a store after the one that is read would hide it
  hidden : (x y : ℕ) → IsOffered events thread reading cell x → IsStore events cell y → x < y → ⊥
  hidden x y o sy lt =
      let e : Event = record { number = length events + 1; thread = thread; kind = reading x; from = x } in
      let n = suc (length events) in
      let sx = o.store in
      let lawful = o.consistent.lawful cell in
      let load : IsLoad (extended events thread reading x) cell n x = record { event = e; is = new_is events e; holds = (loads x, refl) } in
      let is_x = event_more events (e ∷ []) x sx.event sx.is in
      let is_y = event_more events (e ∷ []) y sy.event sy.is in
      let stores = in_order x x y sx.event sy.event is_x is_y (one_of x sx.event sx.is) (one_of y sy.event sy.is) lt in
      let reads = in_order x y n sy.event e is_y (new_is events e) (one_of y sy.event sy.is) refl (omega (arith, at_below events y (λ f. stored_cell f.kind ≡ Some cell) sy)) in
      lawful.write_read_coherence y n x (old_store x y sy) load reads (lawful.write_write_coherence x y (old_store x x sx) (old_store x y sy) stores)

  offered_last : (x : ℕ) → IsOffered events thread reading cell x → IsLastStore events cell x
  offered_last x o = record { store = o.store; last = λ y sy. dite (dec_le y x) (λ (le : y ≤ x). le) (λ (no : y ≤ x → ⊥). absurd (hidden x y o sy (omega arith))) }

  last_offered : (s x : ℕ) → Consistent events → IsStore events cell s → IsLastStore events cell x → IsOffered events thread reading cell x
  last_offered s x c store last =
      let some = some_offered events thread reading cell s c store loads in
      let found = offered_last some.0 some.1 in
      let same : some.0 ≡ x = omega (arith, found.last x last.store, last.last some.0 found.store) in
      subst (λ (z : ℕ). IsOffered events thread reading cell z) same some.1

pub one_thread_reads_last : OneThreadReadsLast
one_thread_reads_last events thread reading cell s x c one_of store loads = (
  offered_last events thread reading cell one_of loads x,
  last_offered events thread reading cell one_of loads s x c store,
)
