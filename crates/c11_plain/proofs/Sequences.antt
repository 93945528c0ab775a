-- Release sequences as steps from store to read-modify-write, and the cases of synchronization.
use Rattle.std.proofs.Common.{◌≡◌, ℕ, suc, List, Some, refl, sym, ap, ◌∙◌, subst, ◌⊎◌, inl, inr}
use Rattle.c11_events.specs.declared.event.Event.{Event}
use Rattle.c11_events.specs.Closure.{Closure, one, join}
use Rattle.c11_events.specs.Events.{IsStore, IsLoad, IsRmw, stored_cell}
use Rattle.c11_events.specs.HappensBefore.{ReleaseSequence, here, next, ReadsSequence, SynchronizesWith, release_to_acquire, fence_to_acquire, release_to_fence, fence_to_fence, unlock_to_lock, create_to_first, end_to_join}
use Rattle.c11_events.proofs.Basics.{at_same, chain_store}
use Rattle.c11_plain.specs.Parts.{ReadsFrom, Follows, Joined, ByReading, ByMutexOrThread}

module _ (events : List Event) where
  same_cell : {cell cell' x : ℕ} → IsStore events cell x → IsStore events cell' x → cell ≡ cell'
  same_cell {cell = cell} {cell' = cell'} {x = x} s t =
      let same = at_same events x s.event t.event s.is t.is in
      let e : Some cell ≡ Some cell' = sym s.holds ∙ (ap (λ (f : Event). stored_cell f.kind) same ∙ t.holds) in cc

  chain_steps : (cell s n x : ℕ) → ReleaseSequence events cell s n x → (s ≡ x) ⊎ Closure (Follows events) s x
  chain_steps cell s _ _ (here is) = inl refl
  chain_steps cell s _ _ (next {n = n} {y = y} {x = x} c r) =
      let f : Follows events y x = record { cell = cell; store = chain_store events cell s n y c; rmw = r } in
      elim (chain_steps cell s n y c) [
        | inl same ↦ inr (subst (λ (z : ℕ). Closure (Follows events) z x) (sym same) (one f))
        | inr w ↦ inr (join w (one f))
      ]

  first_store : {s x : ℕ} → Closure (Follows events) s x → (cell : ℕ) × IsStore events cell s
  first_store (one f) = (f.cell, f.store)
  first_store (join v w) = first_store v

  steps_chain : (cell r m s x : ℕ) → Closure (Follows events) s x → ReleaseSequence events cell r m s → (n : ℕ) × ReleaseSequence events cell r n x
  steps_chain cell r m s x (one f) c =
      let same = same_cell f.store (chain_store events cell r m s c) in
      (suc m, next c (subst (λ (z : ℕ). IsRmw events z x s) same f.rmw))
  steps_chain cell r m s x (join {b = b} v w) c = let t = steps_chain cell r m s b v c in steps_chain cell r t.0 b x w t.1

  abbrev pub Steps : ℕ → ℕ → Type 0
  Steps s l = ReadsFrom events s l ⊎ Joined (Closure (Follows events)) (ReadsFrom events) s l

  pub sequence_steps : (s l : ℕ) → ReadsSequence events s l → Steps s l
  sequence_steps s l r =
      let f : ReadsFrom events r.x l = record { cell = r.cell; store = chain_store events r.cell s r.n r.x r.sequence; load = r.reads } in
      elim (chain_steps r.cell s r.n r.x r.sequence) [
        | inl same ↦ inl (subst (λ (z : ℕ). ReadsFrom events z l) (sym same) f)
        | inr w ↦ inr (r.x, (w, f))
      ]

  pub steps_sequence : (s l : ℕ) → Steps s l → ReadsSequence events s l
  steps_sequence s l (inl f) = record { cell = f.cell; n = 0; x = s; sequence = here f.store; reads = f.load }
  steps_sequence s l (inr t) =
      let f = t.1.1 in
      let h = first_store t.1.0 in
      let c = steps_chain h.0 s 0 s t.0 t.1.0 (here h.1) in
      let same = same_cell f.store (chain_store events h.0 s c.0 t.0 c.1) in
      record { cell = h.0; n = c.0; x = t.0; sequence = c.1; reads = subst (λ (z : ℕ). IsLoad events z l t.0) same f.load }

  pub reading_synchronizes : (a b : ℕ) → ByReading events a b ⊎ ByMutexOrThread events a b → SynchronizesWith events a b
  reading_synchronizes a b (inl (inl (inl p))) = release_to_acquire p.1.0 p.0 p.1.1
  reading_synchronizes a b (inl (inl (inr p))) = fence_to_acquire p.1.0 p.0.1.0 p.0.1.1 p.1.1
  reading_synchronizes a b (inl (inr (inl p))) = release_to_fence p.1.0 p.0.1.0 p.0.1.1 p.1.1
  reading_synchronizes a b (inl (inr (inr p))) = fence_to_fence p.1.0 p.0.1.0.1.0 p.0.1.0.1.1 p.0.1.1 p.1.1
  reading_synchronizes a b (inr (inl m)) = unlock_to_lock m
  reading_synchronizes a b (inr (inr (inl c))) = create_to_first c
  reading_synchronizes a b (inr (inr (inr e))) = end_to_join e

  pub synchronizes_reading : (a b : ℕ) → SynchronizesWith events a b → ByReading events a b ⊎ ByMutexOrThread events a b
  synchronizes_reading a b (release_to_acquire is r is') = inl (inl (inl (r, (is, is'))))
  synchronizes_reading a b (fence_to_acquire {s = s} is o r is') = inl (inl (inr ((s, (o, r)), (is, is'))))
  synchronizes_reading a b (release_to_fence {l = l} is r o is') = inl (inr (inl ((l, (r, o)), (is, is'))))
  synchronizes_reading a b (fence_to_fence {s = s} {l = l} is o r o' is') = inl (inr (inr ((l, ((s, (o, r)), o')), (is, is'))))
  synchronizes_reading a b (unlock_to_lock m) = inr (inl m)
  synchronizes_reading a b (create_to_first c) = inr (inr (inl c))
  synchronizes_reading a b (end_to_join e) = inr (inr (inr e))
