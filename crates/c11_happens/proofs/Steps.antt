-- What steps directly to a new event is what the event's thread knows and what the event takes over.
use Rattle.std.proofs.Common.{◌≡◌, ℕ, suc, ◌-◌, ◌≤◌, true, List, [], ◌∷◌, ◌++◌, Some, length, take, refl, sym, ap, ◌∙◌, subst, arith, inl, inr}
use Rattle.std.proofs.lemmas.List.{take-append-le, take_at}
use Rattle.c11_events.specs.declared.event.Event.{Event}
use Rattle.c11_events.specs.Events.{At, IsLoad, ReadsEarlier, loaded_cell, is_release_store, is_release_fence, is_acquire_load, is_acquire_fence, locked_mutex, unlocked_mutex, is_create, is_end, joined_thread}
use Rattle.c11_events.specs.HappensBefore.{ProgramOrder, ReleaseSequence, ReadsSequence, IsReleaseStore, IsReleaseFence, SynchronizesWith, release_to_acquire, fence_to_acquire, release_to_fence, fence_to_fence, unlock_to_lock, create_to_first, end_to_join, DirectlyBefore}
use Rattle.c11_events.specs.Threads.{holder, created}
use Rattle.c11_events.proofs.Basics.{at_same}
use Rattle.c11_events.proofs.DecideEvents.{at_below}
use Rattle.c11_events.proofs.Longer.{new_is}
use Rattle.c11_events.proofs.Prefix.{same_more, same_less, load_more, load_less, chain_more, chain_less, program_more, program_less}
use Rattle.c11_events.proofs.Rises.{chain_rises, step_rises}
use Rattle.c11_happens.specs.Covers.{IsOf}
use Rattle.c11_happens.specs.Marks.{Knows, own, start, Hands, by_store, by_fence, Handed, ReadBy, TakesFromStore, TakesByFence, TakesFromUnlock, TakesFromEnd, Takes}

-- what hands x over is x or an earlier event
pub hands_rise : (events : List Event) (cell x m : ℕ) → ReadsEarlier events → Hands events cell x m → m ≤ x
hands_rise events cell x m reads (by_store {n = n} is chain) = omega (arith, chain_rises events cell m n x reads chain)
hands_rise events cell x m reads (by_fence {s = s} {n = n} is order chain) = omega (arith, order.earlier, chain_rises events cell s n x reads chain)

module _ (events : List Event) (e : Event) where
  pub of_new : (P : Event → Type 0) → At (events ++ e ∷ []) (suc (length events)) P → P e
  of_new P t = subst P (at_same (events ++ e ∷ []) (suc (length events)) t.event e t.is (new_is events e)) t.holds

  pub at_new : (P : Event → Type 0) → P e → At (events ++ e ∷ []) (suc (length events)) P
  at_new P p = record { event = e; is = new_is events e; holds = p }

  pub old : (m : ℕ) (P : Event → Type 0) → m ≤ length events → At (events ++ e ∷ []) m P → At events m P
  old m P le t = same_less events (e ∷ []) m P le t

  pub more : (m : ℕ) (P : Event → Type 0) → At events m P → At (events ++ e ∷ []) m P
  more m P t = same_more events (e ∷ []) m P t

  pub below : (m : ℕ) (P : Event → Type 0) → At events m P → m ≤ length events
  below m P t = omega (arith, at_below events m P t)

  pub take_old : (m : ℕ) → m ≤ length events → take m (events ++ e ∷ []) ≡ take m events
  take_old m le = take-append-le m events (e ∷ []) le

  pub created_old : (m : ℕ) → m ≤ length events → created (take m (events ++ e ∷ [])) ≡ created (take m events)
  created_old m le = ap (λ (es : List Event). created es) (take_old m le)

  pub hands_more : (cell x m : ℕ) → Hands events cell x m → Hands (events ++ e ∷ []) cell x m
  hands_more cell x m (by_store {n = n} is chain) = by_store (more m (λ f. is_release_store f.kind ≡ true) is) (chain_more events (e ∷ []) cell m n x chain)
  hands_more cell x m (by_fence {s = s} {n = n} is order chain) = by_fence (more m (λ f. is_release_fence f.kind ≡ true) is) (program_more events (e ∷ []) m s order) (chain_more events (e ∷ []) cell s n x chain)

  module _ (reads : ReadsEarlier (events ++ e ∷ [])) where
    pub hands_less : (cell x m : ℕ) → x ≤ length events → Hands (events ++ e ∷ []) cell x m → Hands events cell x m
    hands_less cell x m le (by_store {n = n} is chain) =
        let rise = chain_rises (events ++ e ∷ []) cell m n x reads chain in
        by_store (old m (λ f. is_release_store f.kind ≡ true) (omega arith) is) (chain_less events (e ∷ []) reads cell m n x le chain)
    hands_less cell x m le (by_fence {s = s} {n = n} is order chain) =
        let rise = chain_rises (events ++ e ∷ []) cell s n x reads chain in
        by_fence (old m (λ f. is_release_fence f.kind ≡ true) (omega (arith, order.earlier)) is) (program_less events (e ∷ []) m s (omega arith) order) (chain_less events (e ∷ []) reads cell s n x le chain)

    -- what the new event reads, and what is handed to it
    pub hands_read : (cell x m : ℕ) → IsLoad (events ++ e ∷ []) cell (suc (length events)) x → Hands (events ++ e ∷ []) cell x m → Handed events e m
    hands_read cell x m load hands =
        let is = of_new (λ f. (loaded_cell f.kind ≡ Some cell) × (f.from ≡ x)) load in
        let earlier = reads cell (suc (length events)) x load in
        record { cell = cell; loads = is.0; hands = subst (λ (z : ℕ). Hands events cell z m) (sym is.1) (hands_less cell x m (omega (arith, earlier.1)) hands) }

    pub read_by : (cell l x m : ℕ) → ProgramOrder (events ++ e ∷ []) l (suc (length events)) → IsLoad (events ++ e ∷ []) cell l x → Hands (events ++ e ∷ []) cell x m → ReadBy events e.thread m
    read_by cell l x m order load hands =
        let earlier = reads cell l x load in
        let le : l ≤ length events = omega (arith, order.earlier) in
        record {
          l = l;
          cell = cell;
          x = x;
          is = of_thread l order;
          reads = load_less events (e ∷ []) cell l x le load;
          hands = hands_less cell x m (omega (arith, earlier.1)) hands;
        }
      where
        of_thread : (a : ℕ) → ProgramOrder (events ++ e ∷ []) a (suc (length events)) → IsOf events e.thread a
        of_thread a o = let f = old a (λ f. At (events ++ e ∷ []) (suc (length events)) (λ g. f.thread ≡ g.thread)) (omega (arith, o.earlier)) o.thread in
            record { event = f.event; is = f.is; holds = of_new (λ g. f.event.thread ≡ g.thread) f.holds }

    from_store : (m : ℕ) → ReadsSequence (events ++ e ∷ []) m (suc (length events)) → IsReleaseStore (events ++ e ∷ []) m → is_acquire_load e.kind ≡ true → Takes events e m
    from_store m seq is acquires =
        inl (inl (inl (inr (record { acquires = acquires; handed = hands_read seq.cell seq.x m seq.reads (by_store is seq.sequence) }))))

    from_fenced : (m s : ℕ) → ReadsSequence (events ++ e ∷ []) s (suc (length events)) → IsReleaseFence (events ++ e ∷ []) m → ProgramOrder (events ++ e ∷ []) m s → is_acquire_load e.kind ≡ true → Takes events e m
    from_fenced m s seq is order acquires =
        inl (inl (inl (inr (record { acquires = acquires; handed = hands_read seq.cell seq.x m seq.reads (by_fence is order seq.sequence) }))))

    by_sync : (m : ℕ) → m ≤ length events → SynchronizesWith (events ++ e ∷ []) m (suc (length events)) → Takes events e m
    by_sync m le (release_to_acquire is seq is') = from_store m seq is (of_new (λ f. is_acquire_load f.kind ≡ true) is')
    by_sync m le (fence_to_acquire {s = s} is order seq is') = from_fenced m s seq is order (of_new (λ f. is_acquire_load f.kind ≡ true) is')
    by_sync m le (release_to_fence {l = l} is seq order is') =
        inl (inl (inr (record { acquires = of_new (λ f. is_acquire_fence f.kind ≡ true) is'; read = read_by seq.cell l seq.x m order seq.reads (by_store is seq.sequence) })))
    by_sync m le (fence_to_fence {s = s} {l = l} is order seq order' is') =
        inl (inl (inr (record { acquires = of_new (λ f. is_acquire_fence f.kind ≡ true) is'; read = read_by seq.cell l seq.x m order' seq.reads (by_fence is order seq.sequence) })))
    by_sync m le (unlock_to_lock u) = inl (inr (record {
      mutex = u.mutex;
      locks = of_new (λ f. locked_mutex f.kind ≡ Some u.mutex) u.lock;
      free = ap (λ (es : List Event). holder es u.mutex) (sym (take_at events (e ∷ []) (suc (length events) - 1) (omega arith))) ∙ u.free;
      unlock = old m (λ f. unlocked_mutex f.kind ≡ Some u.mutex) le u.unlock;
    }))
    by_sync m le (create_to_first c) =
        let creates : created (take m events) ≡ e.thread = sym (of_new (λ f. f.thread ≡ created (take m (events ++ e ∷ []))) c.thread ∙ created_old m le) in
        inl (inl (inl (inl (start (λ a is. c.first a (omega (arith, below a (λ f. f.thread ≡ e.thread) is))
        (more a (λ f. f.thread ≡ created (take m (events ++ e ∷ []))) (record { event = is.event; is = is.is; holds = is.holds ∙ sym (created_old m le ∙ creates) })))
        (record { is = old m (λ f. is_create f.kind ≡ true) le c.create; creates = creates })))))
    by_sync m le (end_to_join j) = let f = old m (λ f. (is_end f.kind ≡ true) × At (events ++ e ∷ []) (suc (length events)) (λ g. joined_thread g.kind ≡ Some f.thread)) le j.end in
        inr (record { thread = f.event.thread; joins = of_new (λ g. joined_thread g.kind ≡ Some f.event.thread) f.holds.1; end = record { event = f.event; is = f.is; holds = (f.holds.0, refl) } })

    pub direct_takes : (m : ℕ) → DirectlyBefore (events ++ e ∷ []) m (suc (length events)) → Takes events e m
    direct_takes m (inl o) = let f = old m (λ f. At (events ++ e ∷ []) (suc (length events)) (λ g. f.thread ≡ g.thread)) (omega (arith, o.earlier)) o.thread in
        inl (inl (inl (inl (own (record { event = f.event; is = f.is; holds = of_new (λ g. f.event.thread ≡ g.thread) f.holds })))))
    direct_takes m (inr s) = by_sync m (let lt = step_rises (events ++ e ∷ []) m (suc (length events)) reads (inr s) in omega arith) s

  -- the way back
  pub order_new : (a : ℕ) → IsOf events e.thread a → ProgramOrder (events ++ e ∷ []) a (suc (length events))
  order_new a is = record {
    thread = more a (λ f. At (events ++ e ∷ []) (suc (length events)) (λ g. f.thread ≡ g.thread)) (record { event = is.event; is = is.is; holds = at_new (λ g. is.event.thread ≡ g.thread) is.holds });
    earlier = omega (arith, below a (λ f. f.thread ≡ e.thread) is);
  }

  sequence : (cell s n x l : ℕ) → ReleaseSequence (events ++ e ∷ []) cell s n x → IsLoad (events ++ e ∷ []) cell l x → ReadsSequence (events ++ e ∷ []) s l
  sequence cell s n x l chain load = record { cell = cell; n = n; x = x; sequence = chain; reads = load }

  pub new_load : (cell : ℕ) → loaded_cell e.kind ≡ Some cell → IsLoad (events ++ e ∷ []) cell (suc (length events)) e.from
  new_load cell loads = at_new (λ f. (loaded_cell f.kind ≡ Some cell) × (f.from ≡ e.from)) (loads, refl)

  store_sync : (cell m : ℕ) → is_acquire_load e.kind ≡ true → loaded_cell e.kind ≡ Some cell → Hands (events ++ e ∷ []) cell e.from m → SynchronizesWith (events ++ e ∷ []) m (suc (length events))
  store_sync cell m acquires loads (by_store {n = n} is chain) = release_to_acquire is (sequence cell m n e.from (suc (length events)) chain (new_load cell loads)) (at_new (λ f. is_acquire_load f.kind ≡ true) acquires)
  store_sync cell m acquires loads (by_fence {s = s} {n = n} is order chain) = fence_to_acquire {s = s} is order (sequence cell s n e.from (suc (length events)) chain (new_load cell loads)) (at_new (λ f. is_acquire_load f.kind ≡ true) acquires)

  fence_sync : (cell l x m : ℕ) → is_acquire_fence e.kind ≡ true → ProgramOrder (events ++ e ∷ []) l (suc (length events)) → IsLoad (events ++ e ∷ []) cell l x → Hands (events ++ e ∷ []) cell x m → SynchronizesWith (events ++ e ∷ []) m (suc (length events))
  fence_sync cell l x m acquires order' load (by_store {n = n} is chain) = release_to_fence {l = l} is (sequence cell m n x l chain load) order' (at_new (λ f. is_acquire_fence f.kind ≡ true) acquires)
  fence_sync cell l x m acquires order' load (by_fence {s = s} {n = n} is order chain) = fence_to_fence {s = s} {l = l} is order (sequence cell s n x l chain load) order' (at_new (λ f. is_acquire_fence f.kind ≡ true) acquires)

  knows_direct : (m : ℕ) → Knows events e.thread m → DirectlyBefore (events ++ e ∷ []) m (suc (length events))
  knows_direct m (own is) = inl (order_new m is)
  knows_direct m (start none is) =
      let le = below m (λ f. is_create f.kind ≡ true) is.is in
      let creates : created (take m (events ++ e ∷ [])) ≡ e.thread = created_old m le ∙ is.creates in
      inr (create_to_first (record {
        create = more m (λ f. is_create f.kind ≡ true) is.is;
        thread = at_new (λ f. f.thread ≡ created (take m (events ++ e ∷ []))) (sym creates);
        first = λ a lt t. let f = old a (λ f. f.thread ≡ created (take m (events ++ e ∷ []))) (omega arith) t in none a (record { event = f.event; is = f.is; holds = f.holds ∙ creates });
        earlier = omega arith;
      }))

  store_direct : (m : ℕ) → TakesFromStore events e m → DirectlyBefore (events ++ e ∷ []) m (suc (length events))
  store_direct m t = let h = t.handed in inr (store_sync h.cell m t.acquires h.loads (hands_more h.cell e.from m h.hands))

  fence_direct : (m : ℕ) → TakesByFence events e m → DirectlyBefore (events ++ e ∷ []) m (suc (length events))
  fence_direct m t = let r = t.read in inr (fence_sync r.cell r.l r.x m t.acquires (order_new r.l r.is) (load_more events (e ∷ []) r.cell r.l r.x r.reads) (hands_more r.cell r.x m r.hands))

  unlock_direct : (m : ℕ) → TakesFromUnlock events e m → DirectlyBefore (events ++ e ∷ []) m (suc (length events))
  unlock_direct m t = inr (unlock_to_lock (record {
    mutex = t.mutex;
    unlock = more m (λ f. unlocked_mutex f.kind ≡ Some t.mutex) t.unlock;
    lock = at_new (λ f. locked_mutex f.kind ≡ Some t.mutex) t.locks;
    free = ap (λ (es : List Event). holder es t.mutex) (take_at events (e ∷ []) (suc (length events) - 1) (omega arith)) ∙ t.free;
    earlier = omega (arith, below m (λ f. unlocked_mutex f.kind ≡ Some t.mutex) t.unlock);
  }))

  end_direct : (m : ℕ) → TakesFromEnd events e m → DirectlyBefore (events ++ e ∷ []) m (suc (length events))
  end_direct m t = inr (end_to_join (record {
    end = more m (λ f. (is_end f.kind ≡ true) × At (events ++ e ∷ []) (suc (length events)) (λ g. joined_thread g.kind ≡ Some f.thread))
        (record { event = t.end.event; is = t.end.is; holds = (t.end.holds.0, at_new (λ g. joined_thread g.kind ≡ Some t.end.event.thread) (t.joins ∙ ap (λ (u : ℕ). Some u) (sym t.end.holds.1))) });
    earlier = omega (arith, below m (λ f. (is_end f.kind ≡ true) × (f.thread ≡ t.thread)) t.end);
  }))

  pub takes_direct : (m : ℕ) → Takes events e m → DirectlyBefore (events ++ e ∷ []) m (suc (length events))
  takes_direct m (inl (inl (inl (inl k)))) = knows_direct m k
  takes_direct m (inl (inl (inl (inr t)))) = store_direct m t
  takes_direct m (inl (inl (inr t))) = fence_direct m t
  takes_direct m (inl (inr t)) = unlock_direct m t
  takes_direct m (inr t) = end_direct m t
