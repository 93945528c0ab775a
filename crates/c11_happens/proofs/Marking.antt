-- How the marks of the kept clocks change with a new event.
use Rattle.std.proofs.Common.{◌≡◌, ℕ, zero, suc, ◌+◌, ◌<◌, ◌≤◌, Bool, true, false, cond, List, [], ◌∷◌, ◌++◌, Some, None, length, take, refl, sym, ap, zero-add, ◌∙◌, subst, arith, ◌⊎◌, inl, inr}
use Rattle.std.proofs.lemmas.List.{take_all, length-append}
use Rattle.std.proofs.lemmas.List.Sums.{sum_by-append}
use Rattle.c11_events.specs.declared.event.Event.{Event}
use Rattle.c11_events.specs.declared.event.EventKind.{EventKind}
use Rattle.c11_events.specs.declared.event.EventKind.TheVariants.{Init, AtomicLoad, AtomicStore, Rmw, Unlock}
use Rattle.c11_events.specs.Events.{At, event_at, IsStore, IsLoad, IsRmw, ReadsEarlier, stored_cell, loaded_cell, is_release_store, is_release_fence, is_acquire_load, unlocked_mutex, is_create}
use Rattle.c11_events.specs.HappensBefore.{ProgramOrder, ReleaseSequence, here, next}
use Rattle.c11_events.specs.Threads.{created}
use Rattle.c11_events.specs.Closure.{one}
use Rattle.c11_events.proofs.Basics.{at_same}
use Rattle.c11_events.proofs.Longer.{old_or_new}
use Rattle.c11_events.proofs.Prefix.{reads_less, load_more, load_less}
use Rattle.c11_happens.specs.Covers.{HasNoEvent}
use Rattle.c11_happens.specs.Marks.{Below, IsClockOf, Knows, own, start, Hands, by_store, by_fence, Handed, ReadBy, IsFenceOf, IsUnlockUpTo}
use Rattle.c11_happens.specs.Noting.{joined_if}
use Rattle.c11_happens.proofs.Clocks.{clock_join, clock_below, clock_same, clock_more}
use Rattle.c11_happens.proofs.Steps.{of_new, at_new, old, more, below, created_old, hands_rise, hands_more, hands_less, hands_read, new_load, order_new}

-- a clock that is joined where a condition holds
pub clock_if : (events : List Event) (b : Bool) (c d : List ℕ) (M N P : ℕ → Type 0) → IsClockOf events c M → (b ≡ true → IsClockOf events d N) → ((m : ℕ) → b ≡ true → N m → P m) → ((m : ℕ) → P m → (b ≡ true) × N m)
    → IsClockOf events (joined_if b c d) (λ m. M m ⊎ P m)
clock_if events true c d M N P k l to from = clock_join events c d M P k (clock_same events d N P (λ m is. to m refl is) (λ m is. (from m is).1) (l refl))
clock_if events false c d M N P k l to from = clock_same events c M (λ m. M m ⊎ P m) (λ m is. inl is) (λ m is. elim is [ inl x ↦ x | inr p ↦ absurd (let clash : false ≡ true = (from m p).0 in cc) ]) k

-- an event that acquires by reading is a load
pub acquire_loads : (kind : EventKind) → is_acquire_load kind ≡ true → (cell : ℕ) × (loaded_cell kind ≡ Some cell)
acquire_loads (AtomicLoad cell order) is = (cell, refl)
acquire_loads (Rmw cell order kind operand) is = (cell, refl)
acquire_loads _ is = cc

pub release_stores : (kind : EventKind) → is_release_store kind ≡ true → (cell : ℕ) × (stored_cell kind ≡ Some cell)
release_stores (AtomicStore cell order value) is = (cell, refl)
release_stores (Rmw cell order kind operand) is = (cell, refl)
release_stores _ is = cc

-- a read-modify-write has one cell
pub rmw_cell : (kind : EventKind) (c d : ℕ) → stored_cell kind ≡ Some c → loaded_cell kind ≡ Some d → d ≡ c
rmw_cell (Rmw cell order kind operand) c d s l = cc
rmw_cell (Init cell value) c d s l = cc
rmw_cell (AtomicStore cell order value) c d s l = cc
rmw_cell _ c d s l = cc

-- an Unlock is no store
pub unlock_stores_nothing : (kind : EventKind) (mutex : ℕ) → unlocked_mutex kind ≡ Some mutex → (stored_cell kind ≡ None) × (is_release_store kind ≡ false)
unlock_stores_nothing (Unlock mutex) k is = (refl, refl)
unlock_stores_nothing _ k is = cc

pub store_unlocks_nothing : (kind : EventKind) (cell : ℕ) → stored_cell kind ≡ Some cell → unlocked_mutex kind ≡ None
store_unlocks_nothing (Init cell value) c is = refl
store_unlocks_nothing (AtomicStore cell order value) c is = refl
store_unlocks_nothing (Rmw cell order kind operand) c is = refl
store_unlocks_nothing _ c is = cc

pub created_next : (events : List Event) (e : Event) → created (events ++ e ∷ []) ≡ created events + cond (is_create e.kind) 1 0
created_next events e = sum_by-append (λ (f : Event). cond (is_create f.kind) 1 0) events (e ∷ []) ∙ ap (λ (n : ℕ). created events + n) (zero-add (cond (is_create e.kind) 1 0))

-- an event's number is at least 1
pub positive : (events : List Event) (a : ℕ) (f : Event) → event_at events a ≡ Some f → 0 < a
positive events zero f at = cc
positive events (suc a) f at = omega arith

module _ (events : List Event) (e : Event) where
  -- marks that are events of one kind

  pub split_at : (Q : Event → Type 0) (m : ℕ) → At (events ++ e ∷ []) m Q → At events m Q ⊎ ((m ≡ suc (length events)) × Q e)
  split_at Q m t = elim (old_or_new events e m Q t) [ inl le ↦ inl (old events e m Q le t) | inr new ↦ inr new ]

  pub join_at : (Q : Event → Type 0) (m : ℕ) → m ≡ suc (length events) → Q e → At (events ++ e ∷ []) m Q
  join_at Q m same q = subst (λ (z : ℕ). At (events ++ e ∷ []) z Q) (sym same) (at_new events e Q q)

  module _ (reads : ReadsEarlier (events ++ e ∷ [])) where
    pub clock_at : (Q : Event → Type 0) (b : Bool) (c own_clock : List ℕ) → IsClockOf events c (λ m. At events m Q) → IsClockOf (events ++ e ∷ []) own_clock (λ m. m ≡ suc (length events)) → (b ≡ true → Q e) → (Q e → b ≡ true)
        → IsClockOf (events ++ e ∷ []) (joined_if b c own_clock) (λ m. At (events ++ e ∷ []) m Q)
    clock_at Q b c own_clock k l so only =
        clock_same (events ++ e ∷ []) (joined_if b c own_clock) (λ m. At events m Q ⊎ ((b ≡ true) × (m ≡ suc (length events)))) (λ m. At (events ++ e ∷ []) m Q)
        (λ m is. elim is [ inl t ↦ more events e m Q t | inr p ↦ join_at Q m p.1 (so p.0) ])
        (λ m is. elim (split_at Q m is) [ inl t ↦ inl t | inr p ↦ inr (only p.1, p.0) ])
        (clock_if (events ++ e ∷ []) b c own_clock (λ m. At events m Q) (λ m. m ≡ suc (length events)) (λ m. (b ≡ true) × (m ≡ suc (length events)))
        (clock_more events e reads c (λ m. At events m Q) (λ m t. below events e m Q t) k) (λ is. l) (λ m is same. (is, same)) (λ m p. p))

    pub clock_at_more : (Q : Event → Type 0) (c : List ℕ) → IsClockOf events c (λ m. At events m Q) → (Q e → ⊥) → IsClockOf (events ++ e ∷ []) c (λ m. At (events ++ e ∷ []) m Q)
    clock_at_more Q c k none = clock_same (events ++ e ∷ []) c (λ m. At events m Q) (λ m. At (events ++ e ∷ []) m Q) (λ m t. more events e m Q t)
        (λ m is. elim (split_at Q m is) [ inl t ↦ t | inr p ↦ absurd (none p.1) ]) (clock_more events e reads c (λ m. At events m Q) (λ m t. below events e m Q t) k)

    -- what a load's thread has read

    read_more : (u m : ℕ) → ReadBy events u m → ReadBy (events ++ e ∷ []) u m
    read_more u m r = record {
      l = r.l;
      cell = r.cell;
      x = r.x;
      is = more events e r.l (λ f. f.thread ≡ u) r.is;
      reads = load_more events (e ∷ []) r.cell r.l r.x r.reads;
      hands = hands_more events e r.cell r.x m r.hands;
    }

    read_new : (u m : ℕ) → e.thread ≡ u → Handed events e m → ReadBy (events ++ e ∷ []) u m
    read_new u m same h = record {
      l = suc (length events);
      cell = h.cell;
      x = e.from;
      is = at_new events e (λ f. f.thread ≡ u) same;
      reads = new_load events e h.cell h.loads;
      hands = hands_more events e h.cell e.from m h.hands;
    }

    read_split : (u m : ℕ) → ReadBy (events ++ e ∷ []) u m → ReadBy events u m ⊎ ((e.thread ≡ u) × Handed events e m)
    read_split u m r = elim (old_or_new events e r.l (λ f. f.thread ≡ u) r.is) [
      | inl le ↦ inl (record {
        l = r.l;
        cell = r.cell;
        x = r.x;
        is = old events e r.l (λ f. f.thread ≡ u) le r.is;
        reads = load_less events (e ∷ []) r.cell r.l r.x le r.reads;
        hands = hands_less events e reads r.cell r.x m (let lt = (reads r.cell r.l r.x r.reads).1 in omega arith) r.hands;
      })
      | inr new ↦ inr (new.1, hands_read events e reads r.cell r.x m (subst (λ (l : ℕ). IsLoad (events ++ e ∷ []) r.cell l r.x) new.0 r.reads) r.hands)
    ]

    read_below : (u m : ℕ) → ReadBy events u m → m ≤ length events
    read_below u m r =
        let before = reads_less events (e ∷ []) reads in
        omega (arith, hands_rise events r.cell r.x m before r.hands, (before r.cell r.l r.x r.reads).1, below events e r.l (λ f. f.thread ≡ u) r.is)

    pub handed_below : (m : ℕ) → Handed events e m → m ≤ length events
    handed_below m h = let lt = (reads h.cell (suc (length events)) e.from (new_load events e h.cell h.loads)).1 in
        omega (arith, hands_rise events h.cell e.from m (reads_less events (e ∷ []) reads) h.hands)

    pub clock_read : (b : Bool) (c d : List ℕ) → IsClockOf events c (ReadBy events e.thread) → (b ≡ true → IsClockOf events d (Handed events e)) → ((m : ℕ) → Handed events e m → b ≡ true)
        → IsClockOf (events ++ e ∷ []) (joined_if b c d) (ReadBy (events ++ e ∷ []) e.thread)
    clock_read b c d k l loads =
        clock_same (events ++ e ∷ []) (joined_if b c d) (λ m. ReadBy events e.thread m ⊎ Handed events e m) (ReadBy (events ++ e ∷ []) e.thread)
        (λ m is. elim is [ inl r ↦ read_more e.thread m r | inr h ↦ read_new e.thread m refl h ])
        (λ m is. elim (read_split e.thread m is) [ inl r ↦ inl r | inr p ↦ inr p.1 ])
        (clock_if (events ++ e ∷ []) b c d (ReadBy events e.thread) (Handed events e) (Handed events e) (clock_more events e reads c (ReadBy events e.thread) (read_below e.thread) k)
        (λ is. clock_more events e reads d (Handed events e) handed_below (l is)) (λ m is h. h) (λ m h. (loads m h, h)))

    pub clock_read_more : (u : ℕ) (c : List ℕ) → (e.thread ≡ u → ⊥) → IsClockOf events c (ReadBy events u) → IsClockOf (events ++ e ∷ []) c (ReadBy (events ++ e ∷ []) u)
    clock_read_more u c other k = clock_same (events ++ e ∷ []) c (ReadBy events u) (ReadBy (events ++ e ∷ []) u) (read_more u)
        (λ m is. elim (read_split u m is) [ inl r ↦ r | inr p ↦ absurd (other p.0) ]) (clock_more events e reads c (ReadBy events u) (read_below u) k)

    -- what a thread knows

    knows_below : (u m : ℕ) → Knows events u m → m ≤ length events
    knows_below u m (own is) = below events e m (λ f. f.thread ≡ u) is
    knows_below u m (start none is) = below events e m (λ f. is_create f.kind ≡ true) is.is

    -- the new event knows all that its thread knows
    pub clock_own : (c : List ℕ) → IsClockOf (events ++ e ∷ []) c (λ m. m ≡ suc (length events)) → IsClockOf (events ++ e ∷ []) c (Knows (events ++ e ∷ []) e.thread)
    clock_own c k = clock_below (events ++ e ∷ []) c (λ m. m ≡ suc (length events)) (Knows (events ++ e ∷ []) e.thread)
        (λ m is. (m, (own (join_at (λ f. f.thread ≡ e.thread) m is refl), inl refl))) from k
      where
        from : (m : ℕ) → Knows (events ++ e ∷ []) e.thread m → Below (events ++ e ∷ []) (λ z. z ≡ suc (length events)) m
        from m (own is) = elim (split_at (λ f. f.thread ≡ e.thread) m is) [
          | inl t ↦ (suc (length events), (refl, inr (one (inl (order_new events e m t)))))
          | inr p ↦ (suc (length events), (refl, inl p.0))
        ]
        from m (start none is) = absurd (none (suc (length events)) (at_new events e (λ f. f.thread ≡ e.thread) refl))

    -- the new event creates the thread u, which has done nothing
    abbrev pub Starts : ℕ → Type 0
    Starts u = (is_create e.kind ≡ true) × ((created events + 1 ≡ u) × HasNoEvent events u)

    module _ (u : ℕ) (other : e.thread ≡ u → ⊥) where
      none_more : HasNoEvent events u → HasNoEvent (events ++ e ∷ []) u
      none_more none a is = elim (split_at (λ f. f.thread ≡ u) a is) [ inl t ↦ none a t | inr p ↦ other p.1 ]

      none_less : HasNoEvent (events ++ e ∷ []) u → HasNoEvent events u
      none_less none a is = none a (more events e a (λ f. f.thread ≡ u) is)

      knows_more : (m : ℕ) → Knows events u m → Knows (events ++ e ∷ []) u m
      knows_more m (own is) = own (more events e m (λ f. f.thread ≡ u) is)
      knows_more m (start none is) = start (none_more none) (record {
        is = more events e m (λ f. is_create f.kind ≡ true) is.is;
        creates = created_old events e m (below events e m (λ f. is_create f.kind ≡ true) is.is) ∙ is.creates;
      })

      created_new : created (take (suc (length events)) (events ++ e ∷ [])) ≡ created events + cond (is_create e.kind) 1 0
      created_new = ap (λ (es : List Event). created es) (take_all (suc (length events)) (events ++ e ∷ []) (omega (arith, length-append events (e ∷ [])))) ∙ created_next events e

      one_more : is_create e.kind ≡ true → created events + cond (is_create e.kind) 1 0 ≡ created events + 1
      one_more is = ap (λ (b : Bool). created events + cond b 1 0) is

      knows_new : (m : ℕ) → m ≡ suc (length events) → Starts u → Knows (events ++ e ∷ []) u m
      knows_new m same s = start (none_more s.1.1) (record {
        is = join_at (λ f. is_create f.kind ≡ true) m same s.0;
        creates = ap (λ (z : ℕ). created (take z (events ++ e ∷ []))) same ∙ (created_new ∙ (one_more s.0 ∙ s.1.0));
      })

      knows_split : (m : ℕ) → Knows (events ++ e ∷ []) u m → Knows events u m ⊎ ((m ≡ suc (length events)) × Starts u)
      knows_split m (own is) = elim (split_at (λ f. f.thread ≡ u) m is) [ inl t ↦ inl (own t) | inr p ↦ absurd (other p.1) ]
      knows_split m (start none is) = elim (split_at (λ f. is_create f.kind ≡ true) m is.is) [
        | inl t ↦ inl (start (none_less none) (record { is = t; creates = sym (created_old events e m (below events e m (λ f. is_create f.kind ≡ true) t)) ∙ is.creates }))
        | inr p ↦ inr (p.0, (p.1, (sym (one_more p.1) ∙ (sym created_new ∙ (ap (λ (z : ℕ). created (take z (events ++ e ∷ []))) (sym p.0) ∙ is.creates)), none_less none)))
      ]

      pub clock_knows : (b : Bool) (c own_clock : List ℕ) → IsClockOf events c (Knows events u) → IsClockOf (events ++ e ∷ []) own_clock (λ m. m ≡ suc (length events)) → (b ≡ true → Starts u) → (Starts u → b ≡ true)
          → IsClockOf (events ++ e ∷ []) (joined_if b c own_clock) (Knows (events ++ e ∷ []) u)
      clock_knows b c own_clock k l so only =
          clock_same (events ++ e ∷ []) (joined_if b c own_clock) (λ m. Knows events u m ⊎ ((b ≡ true) × (m ≡ suc (length events)))) (Knows (events ++ e ∷ []) u)
          (λ m is. elim is [ inl t ↦ knows_more m t | inr p ↦ knows_new m p.1 (so p.0) ])
          (λ m is. elim (knows_split m is) [ inl t ↦ inl t | inr p ↦ inr (only p.1, p.0) ])
          (clock_if (events ++ e ∷ []) b c own_clock (Knows events u) (λ m. m ≡ suc (length events)) (λ m. (b ≡ true) × (m ≡ suc (length events)))
          (clock_more events e reads c (Knows events u) (knows_below u) k) (λ is. l) (λ m is same. (is, same)) (λ m p. p))

    -- what stores and unlocks hand on

    pub clock_hands_more : (cell x : ℕ) (c : List ℕ) → x ≤ length events → IsClockOf events c (Hands events cell x) → IsClockOf (events ++ e ∷ []) c (Hands (events ++ e ∷ []) cell x)
    clock_hands_more cell x c le k = clock_same (events ++ e ∷ []) c (Hands events cell x) (Hands (events ++ e ∷ []) cell x) (hands_more events e cell x)
        (λ m h. hands_less events e reads cell x m le h)
        (clock_more events e reads c (Hands events cell x) (λ m h. omega (arith, hands_rise events cell x m (reads_less events (e ∷ []) reads) h)) k)

    pub clock_unlocks_more : (mutex x : ℕ) (c : List ℕ) → x ≤ length events → IsClockOf events c (IsUnlockUpTo events mutex x) → IsClockOf (events ++ e ∷ []) c (IsUnlockUpTo (events ++ e ∷ []) mutex x)
    clock_unlocks_more mutex x c le k = clock_same (events ++ e ∷ []) c (IsUnlockUpTo events mutex x) (IsUnlockUpTo (events ++ e ∷ []) mutex x)
        (λ m is. (more events e m (λ f. unlocked_mutex f.kind ≡ Some mutex) is.0, is.1)) (λ m is. (old events e m (λ f. unlocked_mutex f.kind ≡ Some mutex) (omega (arith, is.1)) is.0, is.1))
        (clock_more events e reads c (IsUnlockUpTo events mutex x) (λ m is. below events e m (λ f. unlocked_mutex f.kind ≡ Some mutex) is.0) k)

    -- what the new event hands on as a store
    abbrev pub HandsNew : ℕ → Type 0
    HandsNew m = ((⊥ ⊎ IsFenceOf events e.thread m) ⊎ ((is_release_store e.kind ≡ true) × (m ≡ suc (length events)))) ⊎ Handed events e m

    module _ (cell : ℕ) (stores : stored_cell e.kind ≡ Some cell) where
      new_store : IsStore (events ++ e ∷ []) cell (suc (length events))
      new_store = at_new events e (λ f. stored_cell f.kind ≡ Some cell) stores

      by_read : (m : ℕ) → Hands (events ++ e ∷ []) cell e.from m → loaded_cell e.kind ≡ Some cell → Hands (events ++ e ∷ []) cell (suc (length events)) m
      by_read m (by_store is chain) loads = by_store is (next chain (at_new events e (λ f. (stored_cell f.kind ≡ Some cell) × (loaded_cell f.kind ≡ Some cell) × (f.from ≡ e.from)) (stores, loads, refl)))
      by_read m (by_fence {s = s} is order chain) loads = by_fence {s = s} is order (next chain (at_new events e (λ f. (stored_cell f.kind ≡ Some cell) × (loaded_cell f.kind ≡ Some cell) × (f.from ≡ e.from)) (stores, loads, refl)))

      hands_of : (m : ℕ) → HandsNew m → Hands (events ++ e ∷ []) cell (suc (length events)) m
      hands_of m (inl (inl (inl none))) = absurd none
      hands_of m (inl (inl (inr f))) = by_fence {s = suc (length events)} (more events e m (λ g. is_release_fence g.kind ≡ true) (record { event = f.event; is = f.is; holds = f.holds.0 }))
          (order_new events e m (record { event = f.event; is = f.is; holds = f.holds.1 })) (here new_store)
      hands_of m (inl (inr p)) = subst (λ (z : ℕ). Hands (events ++ e ∷ []) cell (suc (length events)) z) (sym p.1) (by_store (at_new events e (λ g. is_release_store g.kind ≡ true) p.0) (here new_store))
      hands_of m (inr h) = let same = rmw_cell e.kind cell h.cell stores h.loads in
          by_read m (subst (λ (c : ℕ). Hands (events ++ e ∷ []) c e.from m) same (hands_more events e h.cell e.from m h.hands)) (h.loads ∙ ap (λ (c : ℕ). Some c) same)

      -- the last step of a release sequence
      last_step : (s n x : ℕ) → ReleaseSequence (events ++ e ∷ []) cell s n x → (s ≡ x) ⊎ ((k : ℕ) × ((y : ℕ) × (ReleaseSequence (events ++ e ∷ []) cell s k y × IsRmw (events ++ e ∷ []) cell x y)))
      last_step s _ _ (here is) = inl refl
      last_step s _ _ (next {n = n} {y = y} chain is) = inr (n, (y, (chain, is)))

      rmw_handed : (m y : ℕ) → IsRmw (events ++ e ∷ []) cell (suc (length events)) y → Hands (events ++ e ∷ []) cell y m → Handed events e m
      rmw_handed m y is h = hands_read events e reads cell y m (record { event = is.event; is = is.is; holds = (is.holds.1, is.holds.2) }) h

      fence_of : (m s : ℕ) → s ≡ suc (length events) → At (events ++ e ∷ []) m (λ g. is_release_fence g.kind ≡ true) → ProgramOrder (events ++ e ∷ []) m s → IsFenceOf events e.thread m
      fence_of m s same is order =
          let le : m ≤ length events = omega (arith, order.earlier) in
          let f = old events e m (λ f. At (events ++ e ∷ []) s (λ g. f.thread ≡ g.thread)) le order.thread in
          let g = old events e m (λ g. is_release_fence g.kind ≡ true) le is in
          let one_event = at_same events m g.event f.event g.is f.is in
          record {
            event = f.event;
            is = f.is;
            holds = (
              subst (λ (z : Event). is_release_fence z.kind ≡ true) one_event g.holds,
              of_new events e (λ z. f.event.thread ≡ z.thread) (subst (λ (z : ℕ). At (events ++ e ∷ []) z (λ g. f.event.thread ≡ g.thread)) same f.holds),
            );
          }

      of_hands : (x m : ℕ) → x ≡ suc (length events) → Hands (events ++ e ∷ []) cell x m → HandsNew m
      of_hands x m new (by_store {n = n} is chain) = elim (last_step m n x chain) [
        | inl same ↦ inl (inr (of_new events e (λ g. is_release_store g.kind ≡ true) (subst (λ (z : ℕ). At (events ++ e ∷ []) z (λ g. is_release_store g.kind ≡ true)) (same ∙ new) is), same ∙ new))
        | inr t ↦ inr (rmw_handed m t.1.0 (subst (λ (z : ℕ). IsRmw (events ++ e ∷ []) cell z t.1.0) new t.1.1.1) (by_store is t.1.1.0))
      ]
      of_hands x m new (by_fence {s = s} {n = n} is order chain) = elim (last_step s n x chain) [
        | inl same ↦ inl (inl (inr (fence_of m s (same ∙ new) is order)))
        | inr t ↦ inr (rmw_handed m t.1.0 (subst (λ (z : ℕ). IsRmw (events ++ e ∷ []) cell z t.1.0) new t.1.1.1) (by_fence {s = s} is order t.1.1.0))
      ]

      pub clock_hands_new : (c : List ℕ) → IsClockOf (events ++ e ∷ []) c HandsNew → IsClockOf (events ++ e ∷ []) c (Hands (events ++ e ∷ []) cell (suc (length events)))
      clock_hands_new c k = clock_same (events ++ e ∷ []) c HandsNew (Hands (events ++ e ∷ []) cell (suc (length events))) hands_of (λ m h. of_hands (suc (length events)) m refl h) k
