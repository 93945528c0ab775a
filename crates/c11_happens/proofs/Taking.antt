-- The clock of a new event, by what it takes over.
use Rattle.std.proofs.Common.{◌≡◌, ℕ, suc, ◌<◌, ◌≤◌, Bool, true, false, List, [], ◌∷◌, ◌++◌, Option, Some, None, length, max, nat_lt, slice_index, replicate, refl, sym, ap, ◌∙◌, subst, arith, ◌⊎◌, inl, inr}
use Rattle.std.specs.Prelude.{is_some, if◌then◌else◌}
use Rattle.std.proofs.lemmas.Bool.{ltb-true, lt-ltb}
use Rattle.std.proofs.lemmas.List.{length-set}
use Rattle.c11_events.specs.declared.event.Event.{Event}
use Rattle.c11_events.specs.Events.{ReadsEarlier, loaded_cell, is_acquire_load, is_acquire_fence, locked_mutex, unlocked_mutex, joined_thread}
use Rattle.c11_events.specs.Threads.{holder}
use Rattle.c11_events.proofs.DecideEvents.{at_below}
use Rattle.c11_events.proofs.Prefix.{store_less}
use Rattle.c11_happens.specs.Marks.{IsClockOf, Knows, Hands, Handed, ReadBy, IsEndOf, IsUnlockOf, IsUnlockUpTo, TakesFromStore, TakesByFence, TakesFromUnlock, TakesFromEnd, Takes}
use Rattle.c11_happens.specs.Noting.{row, Contents, joined_if, after_store, after_fence, after_unlock, after_end, taken, raised, own_clock}
use Rattle.c11_happens.specs.Kept.{IsKept}
use Rattle.c11_happens.proofs.Clocks.{clock_join, clock_same, clock_zero, clock_new}
use Rattle.c11_happens.proofs.Marking.{clock_if, acquire_loads, positive}
use Rattle.c11_happens.proofs.Places.{length_joined}
use Rattle.c11_happens.proofs.Steps.{new_load, direct_takes, takes_direct}

none_of : (h : Option ℕ) → (if is_some h then false else true) ≡ true → h ≡ None
none_of None is = refl
none_of (Some x) is = cc

of_none : (h : Option ℕ) → h ≡ None → (if is_some h then false else true) ≡ true
of_none None is = refl
of_none (Some x) is = cc

module _ (threads room : ℕ) (events : List Event) (e : Event) (t : Contents) (kept : IsKept threads room events t) (reads : ReadsEarlier (events ++ e ∷ []))
    (space : length events < room) (thread : e.thread < threads) (numbered : e.number ≡ suc (length events)) where
  -- a load's store is kept
  pub from_earlier : (cell : ℕ) → loaded_cell e.kind ≡ Some cell → e.from ≤ length events
  from_earlier cell loads = let lt = (reads cell (suc (length events)) e.from (new_load events e cell loads)).1 in omega arith

  pub handed_clock : (cell : ℕ) → loaded_cell e.kind ≡ Some cell → IsClockOf events (row t.passed e.from) (Handed events e)
  handed_clock cell loads =
      let is = store_less events (e ∷ []) cell e.from (from_earlier cell loads) (reads cell (suc (length events)) e.from (new_load events e cell loads)).0 in
      clock_same events (row t.passed e.from) (Hands events cell e.from) (Handed events e) (λ m h. record { cell = cell; loads = loads; hands = h })
      (λ m h. let same : Some h.cell ≡ Some cell = sym h.loads ∙ loads in let same' : h.cell ≡ cell = cc in subst (λ (c : ℕ). Hands events c e.from m) same' h.hands) (kept.stores cell e.from is)

  pub last_clock : (mutex : ℕ) → IsClockOf events (row t.passed (t.mutexes mutex).last_unlock) (IsUnlockOf events mutex)
  last_clock mutex = let last = kept.last_unlocks mutex in elim last.0 [
    | inl zero ↦ subst (λ (c : List ℕ). IsClockOf events c (IsUnlockOf events mutex)) (sym (ap (λ (x : ℕ). row t.passed x) zero ∙ kept.none))
        (clock_zero events threads (IsUnlockOf events mutex) (λ m is. let some = positive events m is.event is.is in omega (arith, last.1 m is)))
    | inr is ↦ clock_same events (row t.passed (t.mutexes mutex).last_unlock) (IsUnlockUpTo events mutex (t.mutexes mutex).last_unlock) (IsUnlockOf events mutex) (λ m p. p.0) (λ m p. (p, last.1 m p))
        (kept.unlocks mutex (t.mutexes mutex).last_unlock is)
  ]

  pub last_within : (mutex : ℕ) → (t.mutexes mutex).last_unlock ≤ length events
  last_within mutex = elim (kept.last_unlocks mutex).0 [
    | inl zero ↦ omega arith
    | inr is ↦ omega (arith, at_below events (t.mutexes mutex).last_unlock (λ f. unlocked_mutex f.kind ≡ Some mutex) is)
  ]

  took_store : IsClockOf events (after_store e t.passed (row t.known e.thread)) (λ m. Knows events e.thread m ⊎ TakesFromStore events e m)
  took_store = clock_if events (is_acquire_load e.kind) (row t.known e.thread) (row t.passed e.from) (Knows events e.thread) (Handed events e) (TakesFromStore events e) (kept.known e.thread thread)
      (λ is. let loads = acquire_loads e.kind is in handed_clock loads.0 loads.1) (λ m is h. record { acquires = is; handed = h }) (λ m h. (h.acquires, h.handed))

  took_fence : (c : List ℕ) (M : ℕ → Type 0) → IsClockOf events c M → IsClockOf events (after_fence e t.read c) (λ m. M m ⊎ TakesByFence events e m)
  took_fence c M k = clock_if events (is_acquire_fence e.kind) c (row t.read e.thread) M (ReadBy events e.thread) (TakesByFence events e) k (λ is. kept.read e.thread thread)
      (λ m is r. record { acquires = is; read = r }) (λ m h. (h.acquires, h.read))

  took_unlock : (o : Option ℕ) → locked_mutex e.kind ≡ o → (c : List ℕ) (M : ℕ → Type 0) → IsClockOf events c M → IsClockOf events (after_unlock o t.mutexes t.passed c) (λ m. M m ⊎ TakesFromUnlock events e m)
  took_unlock None is c M k = clock_same events c M (λ m. M m ⊎ TakesFromUnlock events e m) (λ m x. inl x)
      (λ m x. elim x [ inl y ↦ y | inr h ↦ absurd (let clash : None ≡ Some h.mutex = sym is ∙ h.locks in cc) ]) k
  took_unlock (Some mutex) is c M k = clock_if events (if is_some (t.mutexes mutex).holder then false else true) c (row t.passed (t.mutexes mutex).last_unlock) M (IsUnlockOf events mutex) (TakesFromUnlock events e) k
      (λ free. last_clock mutex) (λ m free h. record { mutex = mutex; locks = is; free = sym (kept.holders mutex) ∙ none_of (t.mutexes mutex).holder free; unlock = h }) from
    where
      from : (m : ℕ) → TakesFromUnlock events e m → ((if is_some (t.mutexes mutex).holder then false else true) ≡ true) × IsUnlockOf events mutex m
      from m h = let both : Some h.mutex ≡ Some mutex = sym h.locks ∙ is in let same : h.mutex ≡ mutex = cc in
          (of_none (t.mutexes mutex).holder (kept.holders mutex ∙ subst (λ (k : ℕ). holder events k ≡ None) same h.free), subst (λ (k : ℕ). IsUnlockOf events k m) same h.unlock)

  took_end : (o : Option ℕ) → joined_thread e.kind ≡ o → (c : List ℕ) (M : ℕ → Type 0) → IsClockOf events c M → IsClockOf events (after_end o t.ended c) (λ m. M m ⊎ TakesFromEnd events e m)
  took_end None is c M k = clock_same events c M (λ m. M m ⊎ TakesFromEnd events e m) (λ m x. inl x)
      (λ m x. elim x [ inl y ↦ y | inr h ↦ absurd (let clash : None ≡ Some h.thread = sym is ∙ h.joins in cc) ]) k
  took_end (Some joined') is c M k = clock_if events (nat_lt joined' (length t.ended)) c (row t.ended joined') M (IsEndOf events joined') (TakesFromEnd events e) k
      (λ lt. kept.ended joined' (let less = ltb-true joined' (length t.ended) lt in omega (arith, kept.sized.ended))) (λ m lt h. record { thread = joined'; joins = is; end = h }) from
    where
      from : (m : ℕ) → TakesFromEnd events e m → (nat_lt joined' (length t.ended) ≡ true) × IsEndOf events joined' m
      from m h =
          let both : Some h.thread ≡ Some joined' = sym h.joins ∙ is in
          let same : h.thread ≡ joined' = cc in
          let end : IsEndOf events joined' m = subst (λ (k : ℕ). IsEndOf events k m) same h.end in
          (lt-ltb joined' (length t.ended) (omega (arith, kept.sized.ended, kept.within m end.event end.is, end.holds.1)), end)

  took : IsClockOf events (taken t e) (Takes events e)
  took = took_end (joined_thread e.kind) refl _ _ (took_unlock (locked_mutex e.kind) refl _ _ (took_fence _ _ took_store))

  -- the sizes of these clocks

  wide_from : is_acquire_load e.kind ≡ true → length (row t.passed e.from) ≡ threads
  wide_from is = let loads = acquire_loads e.kind is in kept.sized.wide_passed e.from (omega (arith, from_earlier loads.0 loads.1, kept.sized.passed))

  pub size_if : (b : Bool) (c d : List ℕ) → length c ≡ threads → (b ≡ true → length d ≡ threads) → length (joined_if b c d) ≡ threads
  size_if true c d size other = length_joined c d (other refl ∙ sym size) ∙ size
  size_if false c d size other = size

  size_unlock : (o : Option ℕ) (c : List ℕ) → length c ≡ threads → length (after_unlock o t.mutexes t.passed c) ≡ threads
  size_unlock None c size = size
  size_unlock (Some mutex) c size = size_if (if is_some (t.mutexes mutex).holder then false else true) c (row t.passed (t.mutexes mutex).last_unlock) size
      (λ free. kept.sized.wide_passed (t.mutexes mutex).last_unlock (omega (arith, last_within mutex, kept.sized.passed)))

  size_end : (o : Option ℕ) (c : List ℕ) → length c ≡ threads → length (after_end o t.ended c) ≡ threads
  size_end None c size = size
  size_end (Some joined') c size = size_if (nat_lt joined' (length t.ended)) c (row t.ended joined') size (λ lt. kept.sized.wide_ended joined' (ltb-true joined' (length t.ended) lt))

  pub size_taken : length (taken t e) ≡ threads
  size_taken = size_end (joined_thread e.kind) _ (size_unlock (locked_mutex e.kind) _ (size_if (is_acquire_fence e.kind) _ (row t.read e.thread)
      (size_if (is_acquire_load e.kind) (row t.known e.thread) (row t.passed e.from) (kept.sized.wide_known e.thread (omega (arith, kept.sized.known))) wide_from)
      (λ is. kept.sized.wide_read e.thread (omega (arith, kept.sized.read)))))

  pub size_raised : length (raised (taken t e) e.thread e.number) ≡ threads
  size_raised = length-set (taken t e) e.thread (max (slice_index (taken t e) e.thread) e.number) ∙ size_taken

  -- the new event's clock
  pub raised_clock : IsClockOf (events ++ e ∷ []) (raised (taken t e) e.thread e.number) (λ m. m ≡ suc (length events))
  raised_clock = subst (λ (n : ℕ). IsClockOf (events ++ e ∷ []) (raised (taken t e) e.thread n) (λ m. m ≡ suc (length events))) (sym numbered)
      (clock_new events e reads (taken t e) (Takes events e) took (omega (arith, size_taken)) (takes_direct events e) (direct_takes events e reads))

  blank : row t.clocks e.number ≡ replicate threads 0
  blank = kept.blank_clocks e.number (omega arith) (omega arith)

  pub own_is : IsClockOf (events ++ e ∷ []) (own_clock t e) (λ m. m ≡ suc (length events))
  own_is = clock_same (events ++ e ∷ []) (own_clock t e) (λ m. ⊥ ⊎ (m ≡ suc (length events))) (λ m. m ≡ suc (length events)) (λ m x. elim x [ inl none ↦ absurd none | inr is ↦ is ]) (λ m is. inr is)
      (clock_join (events ++ e ∷ []) (row t.clocks e.number) (raised (taken t e) e.thread e.number) (λ m. ⊥) (λ m. m ≡ suc (length events))
      (subst (λ (c : List ℕ). IsClockOf (events ++ e ∷ []) c (λ m. ⊥)) (sym blank) (clock_zero (events ++ e ∷ []) threads (λ m. ⊥) (λ m none. none))) raised_clock)

  pub size_own : length (own_clock t e) ≡ threads
  size_own = let size : length (row t.clocks e.number) ≡ threads = kept.sized.wide_clocks e.number (omega (arith, kept.sized.clocks)) in
      length_joined (row t.clocks e.number) (raised (taken t e) e.thread e.number) (size_raised ∙ sym size) ∙ size
