-- The tables are kept with a new event.
use Rattle.std.proofs.Common.{◌≡◌, ℕ, suc, ◌+◌, ◌<◌, ◌≤◌, Bool, true, false, ◌&&◌, cond, List, [], ◌∷◌, ◌++◌, Option, Some, None, length, nat_eq, nat_lt, slice_index, slice_set, replicate, refl, sym, ap, ◌∙◌, subst, arith, ◌⊎◌, inl, inr}
use Rattle.std.specs.Prelude.{is_some, if◌then◌else◌}
use Rattle.std.proofs.lemmas.Bool.{eqb-true, eq-eqb, lt-ltb, ltb-true}
use Rattle.std.proofs.lemmas.List.{length-append}
use native.Mathlib.Decide.{ℕ_discrete}
use mathlib.Core.Logic.{dite}
use Rattle.c11_clock.specs.Clocks.{joined}
use Rattle.c11_events.specs.declared.event.Event.{Event}
use Rattle.c11_events.specs.Events.{At, event_at, IsStore, ReadsEarlier, stored_cell, loaded_cell, is_release_store, is_release_fence, unlocked_mutex, is_create, is_end}
use Rattle.c11_events.specs.Threads.{holder, holder_from, holder_next, option_is}
use Rattle.c11_events.proofs.DecideEvents.{at_below, event_below}
use Rattle.c11_events.proofs.Longer.{old_or_new}
use Rattle.c11_events.proofs.Prefix.{event_less, store_less}
use Rattle.c11_happens.specs.declared.mutexes.MutexState.{MutexState}
use Rattle.c11_happens.specs.Covers.{HasNoEvent}
use Rattle.c11_happens.specs.Marks.{IsClockOf, Knows, own, Hands, Handed, ReadBy, IsFenceOf, IsEndOf, IsUnlockOf, IsUnlockUpTo}
use Rattle.c11_happens.specs.Noting.{row, AreWide, Contents, joined_if, is_store, is_load, by_stored, by_unlocked, handed_on, raised, taken, own_clock, started, IsNoted}
use Rattle.c11_happens.specs.Kept.{IsKept, AreSized, IsLastUnlock}
use Rattle.c11_happens.proofs.Clocks.{clock_join, clock_same, clock_zero, clock_more}
use Rattle.c11_happens.proofs.Marking.{clock_if, clock_at, clock_at_more, clock_read, clock_read_more, clock_own, clock_knows, Starts, clock_hands_more, clock_unlocks_more, HandsNew, clock_hands_new, created_next, positive, split_at, join_at, unlock_stores_nothing, store_unlocks_nothing, handed_below}
use Rattle.c11_happens.proofs.Places.{length_joined}
use Rattle.c11_happens.proofs.Rows.{row_at, row_else, row_set, wide_set, set_length}
use Rattle.c11_happens.proofs.Steps.{of_new, old, more, below}
use Rattle.c11_happens.proofs.Taking.{from_earlier, size_if, handed_clock, last_clock, last_within, raised_clock, size_raised, own_is, size_own}

holder_more : (held : Option ℕ) (mutex : ℕ) (events : List Event) (e : Event) → holder_from held mutex (events ++ e ∷ []) ≡ holder_next (holder_from held mutex events) mutex e
holder_more held mutex [] e = refl
holder_more held mutex (f ∷ events) e = holder_more (holder_next held mutex f) mutex events e

pub some_of : (o : Option ℕ) → is_some o ≡ true → (x : ℕ) × (o ≡ Some x)
some_of None is = cc
some_of (Some x) is = (x, refl)

option_is_some : (o : Option ℕ) (x : ℕ) → option_is o x ≡ true → o ≡ Some x
option_is_some None x is = cc
option_is_some (Some y) x is = ap (λ (z : ℕ). Some z) (eqb-true y x is)

some_option_is : (o : Option ℕ) (x : ℕ) → o ≡ Some x → option_is o x ≡ true
some_option_is None x is = cc
some_option_is (Some y) x is = let same : y ≡ x = cc in eq-eqb y x same

both : (a b : Bool) → a ≡ true → b ≡ true → (a && b) ≡ true
both true b is is' = is'
both false b is is' = cc

left : (a b : Bool) → (a && b) ≡ true → a ≡ true
left true b is = refl
left false b is = cc

right : (a b : Bool) → (a && b) ≡ true → b ≡ true
right true b is = is
right false b is = cc

-- the clock of a thread after another has been started
start_test : List (List ℕ) → ℕ → Bool
start_test known thread = nat_lt thread (length known) && nat_eq (slice_index (row known thread) thread) 0

started_row : (known : List (List ℕ)) (own_clock : List ℕ) (thread j : ℕ) → row (started known own_clock thread) j ≡ joined_if (nat_eq j thread && start_test known thread) (row known j) own_clock
unfolding start_test
started_row known own_clock thread j = by_test (nat_lt thread (length known) && nat_eq (slice_index (row known thread) thread) 0) refl
  where
    joined_there : (b : Bool) → thread < length known → nat_eq j thread ≡ b → row (slice_set known thread (joined (row known thread) own_clock)) j ≡ joined_if (b && true) (row known j) own_clock
    joined_there true lt is = let same = eqb-true j thread is in ap (λ (k : ℕ). row (slice_set known thread (joined (row known thread) own_clock)) k) same
        ∙ (row_at known thread (joined (row known thread) own_clock) lt ∙ ap (λ (k : ℕ). joined (row known k) own_clock) (sym same))
    joined_there false lt is = row_else known thread (joined (row known thread) own_clock) j (λ same. let clash : false ≡ true = sym is ∙ eq-eqb j thread same in cc)

    nothing : (b : Bool) → row known j ≡ joined_if (b && false) (row known j) own_clock
    nothing true = refl
    nothing false = refl

    by_test : (b : Bool) → (nat_lt thread (length known) && nat_eq (slice_index (row known thread) thread) 0) ≡ b
        → row (if b then slice_set known thread (joined (row known thread) own_clock) else known) j ≡ joined_if (nat_eq j thread && b) (row known j) own_clock
    by_test true is = joined_there (nat_eq j thread) (ltb-true thread (length known) (left _ _ is)) refl
    by_test false is = nothing (nat_eq j thread)

module _ (threads room : ℕ) (events : List Event) (e : Event) (t u : Contents) (kept : IsKept threads room events t) (reads : ReadsEarlier (events ++ e ∷ []))
    (space : length events < room) (thread : e.thread < threads) (numbered : e.number ≡ suc (length events)) (noted : IsNoted t e u) where
  abbrev Clock : List ℕ → (ℕ → Type 0) → Type 0
  Clock c M = IsClockOf (events ++ e ∷ []) c M

  new_clock : List ℕ
  new_clock = own_clock t e

  is_new : Clock new_clock (λ m. m ≡ suc (length events))
  unfolding new_clock
  is_new = own_is threads room events e t kept reads space thread numbered

  size_new : length new_clock ≡ threads
  unfolding new_clock
  size_new = size_own threads room events e t kept reads space thread numbered

  number_other : (x : ℕ) → x ≤ length events → x ≡ e.number → ⊥
  number_other x le same = omega arith

  -- the numbered tables

  clocks_next : (b : ℕ) (f : Event) → event_at (events ++ e ∷ []) b ≡ Some f → Clock (row u.clocks b) (λ m. m ≡ b)
  unfolding new_clock
  clocks_next b f at = subst (λ (table : List (List ℕ)). Clock (row table b) (λ m. m ≡ b)) (sym noted.clocks)
      (row_set (λ c. Clock c (λ m. m ≡ b)) t.clocks e.number new_clock b (omega (arith, kept.sized.clocks))
      (λ same. clock_same (events ++ e ∷ []) new_clock (λ m. m ≡ suc (length events)) (λ m. m ≡ b) (λ m is. is ∙ sym (same ∙ numbered)) (λ m is. is ∙ (same ∙ numbered)) is_new)
      (λ other. let le : b ≤ length events = omega (arith, event_below (events ++ e ∷ []) b f at, length-append events (e ∷ [])) in
      clock_more events e reads (row t.clocks b) (λ m. m ≡ b) (λ m is. omega arith) (kept.clocks b f (event_less events (e ∷ []) b f le at))))

  at_end : (x : ℕ) (Q : Event → Type 0) → At (events ++ e ∷ []) x Q → (x ≡ e.number → ⊥) → x ≤ length events
  at_end x Q is other = omega (arith, at_below (events ++ e ∷ []) x Q is, length-append events (e ∷ []))

  blank_passed : row t.passed e.number ≡ replicate threads 0
  blank_passed = kept.blank_passed e.number (omega arith) (omega arith)

  zero_is : (M : ℕ → Type 0) → ((m : ℕ) → M m → ⊥) → Clock (row t.passed e.number) M
  zero_is M none = subst (λ (c : List ℕ). Clock c M) (sym blank_passed) (clock_zero (events ++ e ∷ []) threads M none)

  stored_clock : (cell : ℕ) → stored_cell e.kind ≡ Some cell → Clock (by_stored e t.passed t.fenced new_clock (row t.passed e.number)) (HandsNew events e reads)
  stored_clock cell stores =
      let is : is_store e ≡ true = ap (λ (o : Option ℕ). is_some o) stores in
      clock_if (events ++ e ∷ []) (is_store e && is_load e) _ (row t.passed e.from) (λ m. (⊥ ⊎ IsFenceOf events e.thread m) ⊎ ((is_release_store e.kind ≡ true) × (m ≡ suc (length events)))) (Handed events e) (Handed events e)
      (clock_if (events ++ e ∷ []) (is_release_store e.kind) _ new_clock (λ m. ⊥ ⊎ IsFenceOf events e.thread m) (λ m. m ≡ suc (length events)) (λ m. (is_release_store e.kind ≡ true) × (m ≡ suc (length events)))
      (clock_if (events ++ e ∷ []) (is_store e) (row t.passed e.number) (row t.fenced e.thread) (λ m. ⊥) (IsFenceOf events e.thread) (IsFenceOf events e.thread) (zero_is (λ m. ⊥) (λ m none. none))
      (λ _. clock_more events e reads (row t.fenced e.thread) (IsFenceOf events e.thread) (λ m f. below events e m (λ g. (is_release_fence g.kind ≡ true) × (g.thread ≡ e.thread)) f) (kept.fenced e.thread thread))
      (λ m _ f. f) (λ m f. (is, f)))
      (λ _. is_new) (λ m r same. (r, same)) (λ m p. p))
      (λ two. let loads = some_of (loaded_cell e.kind) (right (is_store e) (is_load e) two) in
      clock_more events e reads (row t.passed e.from) (Handed events e) (handed_below events e reads) (handed_clock threads room events e t kept reads space thread numbered loads.0 loads.1))
      (λ m _ h. h) (λ m h. (both (is_store e) (is_load e) is (ap (λ (o : Option ℕ). is_some o) h.loads), h))

  handed_store : (cell : ℕ) → stored_cell e.kind ≡ Some cell → Clock (handed_on t e new_clock) (Hands (events ++ e ∷ []) cell (suc (length events)))
  handed_store cell stores = subst (λ (o : Option ℕ). Clock (by_unlocked o t.mutexes t.passed new_clock (by_stored e t.passed t.fenced new_clock (row t.passed e.number))) (Hands (events ++ e ∷ []) cell (suc (length events))))
      (sym (store_unlocks_nothing e.kind cell stores)) (clock_hands_new events e reads cell stores _ (stored_clock cell stores))

  stored_nothing : stored_cell e.kind ≡ None → is_release_store e.kind ≡ false → by_stored e t.passed t.fenced new_clock (row t.passed e.number) ≡ row t.passed e.number
  stored_nothing none none' = ap (λ (p : Bool × Bool). joined_if (p.0 && is_load e) (joined_if p.1 (joined_if p.0 (row t.passed e.number) (row t.fenced e.thread)) new_clock) (row t.passed e.from))
      (λ i. (ap (λ (o : Option ℕ). is_some o) none i, none' i))

  handed_unlock : (mutex : ℕ) → unlocked_mutex e.kind ≡ Some mutex → Clock (handed_on t e new_clock) (IsUnlockUpTo (events ++ e ∷ []) mutex (suc (length events)))
  handed_unlock mutex unlocks =
      let nothing = unlock_stores_nothing e.kind mutex unlocks in
      subst (λ (o : Option ℕ). Clock (by_unlocked o t.mutexes t.passed new_clock (by_stored e t.passed t.fenced new_clock (row t.passed e.number))) (IsUnlockUpTo (events ++ e ∷ []) mutex (suc (length events)))) (sym unlocks)
      (subst (λ (c : List ℕ). Clock (joined (joined c new_clock) (row t.passed (t.mutexes mutex).last_unlock)) (IsUnlockUpTo (events ++ e ∷ []) mutex (suc (length events)))) (sym (stored_nothing nothing.0 nothing.1))
      (clock_same (events ++ e ∷ []) _ (λ m. (⊥ ⊎ (m ≡ suc (length events))) ⊎ IsUnlockOf events mutex m) (IsUnlockUpTo (events ++ e ∷ []) mutex (suc (length events))) to from
      (clock_join (events ++ e ∷ []) _ (row t.passed (t.mutexes mutex).last_unlock) (λ m. ⊥ ⊎ (m ≡ suc (length events))) (IsUnlockOf events mutex)
      (clock_join (events ++ e ∷ []) (row t.passed e.number) new_clock (λ m. ⊥) (λ m. m ≡ suc (length events)) (zero_is (λ m. ⊥) (λ m none. none)) is_new)
      (clock_more events e reads (row t.passed (t.mutexes mutex).last_unlock) (IsUnlockOf events mutex) (λ m is. below events e m (λ f. unlocked_mutex f.kind ≡ Some mutex) is)
      (last_clock threads room events e t kept reads space thread numbered mutex)))))
    where
      to : (m : ℕ) → (⊥ ⊎ (m ≡ suc (length events))) ⊎ IsUnlockOf events mutex m → IsUnlockUpTo (events ++ e ∷ []) mutex (suc (length events)) m
      to m (inl (inl none)) = absurd none
      to m (inl (inr same)) = (join_at events e (λ f. unlocked_mutex f.kind ≡ Some mutex) m same unlocks, omega arith)
      to m (inr is) = (more events e m (λ f. unlocked_mutex f.kind ≡ Some mutex) is, let le = below events e m (λ f. unlocked_mutex f.kind ≡ Some mutex) is in omega arith)

      from : (m : ℕ) → IsUnlockUpTo (events ++ e ∷ []) mutex (suc (length events)) m → (⊥ ⊎ (m ≡ suc (length events))) ⊎ IsUnlockOf events mutex m
      from m is = elim (split_at events e (λ f. unlocked_mutex f.kind ≡ Some mutex) m is.0) [ inl x ↦ inr x | inr p ↦ inl (inr p.0) ]

  stores_next : (cell x : ℕ) → IsStore (events ++ e ∷ []) cell x → Clock (row u.passed x) (Hands (events ++ e ∷ []) cell x)
  unfolding new_clock
  stores_next cell x is = subst (λ (table : List (List ℕ)). Clock (row table x) (Hands (events ++ e ∷ []) cell x)) (sym noted.passed)
      (row_set (λ c. Clock c (Hands (events ++ e ∷ []) cell x)) t.passed e.number (handed_on t e new_clock) x (omega (arith, kept.sized.passed))
      (λ same. subst (λ (z : ℕ). Clock (handed_on t e new_clock) (Hands (events ++ e ∷ []) cell z)) (sym (same ∙ numbered))
      (handed_store cell (of_new events e (λ f. stored_cell f.kind ≡ Some cell) (subst (λ (z : ℕ). IsStore (events ++ e ∷ []) cell z) (same ∙ numbered) is))))
      (λ other. let le = at_end x (λ f. stored_cell f.kind ≡ Some cell) is other in clock_hands_more events e reads cell x (row t.passed x) le (kept.stores cell x (store_less events (e ∷ []) cell x le is))))

  unlocks_next : (mutex x : ℕ) → IsUnlockOf (events ++ e ∷ []) mutex x → Clock (row u.passed x) (IsUnlockUpTo (events ++ e ∷ []) mutex x)
  unfolding new_clock
  unlocks_next mutex x is = subst (λ (table : List (List ℕ)). Clock (row table x) (IsUnlockUpTo (events ++ e ∷ []) mutex x)) (sym noted.passed)
      (row_set (λ c. Clock c (IsUnlockUpTo (events ++ e ∷ []) mutex x)) t.passed e.number (handed_on t e new_clock) x (omega (arith, kept.sized.passed))
      (λ same. subst (λ (z : ℕ). Clock (handed_on t e new_clock) (IsUnlockUpTo (events ++ e ∷ []) mutex z)) (sym (same ∙ numbered))
      (handed_unlock mutex (of_new events e (λ f. unlocked_mutex f.kind ≡ Some mutex) (subst (λ (z : ℕ). IsUnlockOf (events ++ e ∷ []) mutex z) (same ∙ numbered) is))))
      (λ other. let le = at_end x (λ f. unlocked_mutex f.kind ≡ Some mutex) is other in
      clock_unlocks_more events e reads mutex x (row t.passed x) le (kept.unlocks mutex x (old events e x (λ f. unlocked_mutex f.kind ≡ Some mutex) le is))))

  -- the tables of threads

  fenced_next : (v : ℕ) → v < threads → Clock (row u.fenced v) (IsFenceOf (events ++ e ∷ []) v)
  unfolding new_clock
  fenced_next v lt = subst (λ (table : List (List ℕ)). Clock (row table v) (IsFenceOf (events ++ e ∷ []) v)) (sym noted.fenced)
      (row_set (λ c. Clock c (IsFenceOf (events ++ e ∷ []) v)) t.fenced e.thread (joined_if (is_release_fence e.kind) (row t.fenced e.thread) new_clock) v (omega (arith, kept.sized.fenced))
      (λ same. clock_at events e reads (λ f. (is_release_fence f.kind ≡ true) × (f.thread ≡ v)) (is_release_fence e.kind) (row t.fenced e.thread) new_clock
      (subst (λ (z : ℕ). IsClockOf events (row t.fenced z) (IsFenceOf events v)) same (kept.fenced v lt)) is_new (λ is. (is, sym same)) (λ p. p.0))
      (λ other. clock_at_more events e reads (λ f. (is_release_fence f.kind ≡ true) × (f.thread ≡ v)) (row t.fenced v) (kept.fenced v lt) (λ p. other (sym p.1))))

  ended_next : (v : ℕ) → v < threads → Clock (row u.ended v) (IsEndOf (events ++ e ∷ []) v)
  unfolding new_clock
  ended_next v lt = subst (λ (table : List (List ℕ)). Clock (row table v) (IsEndOf (events ++ e ∷ []) v)) (sym noted.ended)
      (row_set (λ c. Clock c (IsEndOf (events ++ e ∷ []) v)) t.ended e.thread (joined_if (is_end e.kind) (row t.ended e.thread) new_clock) v (omega (arith, kept.sized.ended))
      (λ same. clock_at events e reads (λ f. (is_end f.kind ≡ true) × (f.thread ≡ v)) (is_end e.kind) (row t.ended e.thread) new_clock
      (subst (λ (z : ℕ). IsClockOf events (row t.ended z) (IsEndOf events v)) same (kept.ended v lt)) is_new (λ is. (is, sym same)) (λ p. p.0))
      (λ other. clock_at_more events e reads (λ f. (is_end f.kind ≡ true) × (f.thread ≡ v)) (row t.ended v) (kept.ended v lt) (λ p. other (sym p.1))))

  read_next : (v : ℕ) → v < threads → Clock (row u.read v) (ReadBy (events ++ e ∷ []) v)
  read_next v lt = subst (λ (table : List (List ℕ)). Clock (row table v) (ReadBy (events ++ e ∷ []) v)) (sym noted.read)
      (row_set (λ c. Clock c (ReadBy (events ++ e ∷ []) v)) t.read e.thread (joined_if (is_load e) (row t.read e.thread) (row t.passed e.from)) v (omega (arith, kept.sized.read))
      (λ same. subst (λ (z : ℕ). Clock (joined_if (is_load e) (row t.read e.thread) (row t.passed e.from)) (ReadBy (events ++ e ∷ []) z)) (sym same)
      (clock_read events e reads (is_load e) (row t.read e.thread) (row t.passed e.from) (kept.read e.thread thread)
      (λ is. let loads = some_of (loaded_cell e.kind) is in handed_clock threads room events e t kept reads space thread numbered loads.0 loads.1) (λ m h. ap (λ (o : Option ℕ). is_some o) h.loads)))
      (λ other. clock_read_more events e reads v (row t.read v) (λ same. other (sym same)) (kept.read v lt)))

  moved : List (List ℕ)
  moved = slice_set t.known e.thread (raised (taken t e) e.thread e.number)

  -- whether the new event starts the thread v
  starts : ℕ → Bool
  starts v = is_create e.kind && (nat_eq v (t.created + 1) && start_test moved (t.created + 1))

  known_row : (v : ℕ) → row u.known v ≡ joined_if (starts v) (row moved v) new_clock
  unfolding moved starts new_clock
  known_row v = ap (λ (table : List (List ℕ)). row table v) noted.known ∙ by_create (is_create e.kind)
    where
      by_create : (b : Bool) → row (if b then started moved new_clock (t.created + 1) else moved) v ≡ joined_if (b && (nat_eq v (t.created + 1) && start_test moved (t.created + 1))) (row moved v) new_clock
      by_create true = started_row moved new_clock (t.created + 1) v
      by_create false = refl

  -- a thread whose own number is 0 has no event
  no_event : (v : ℕ) → v < threads → slice_index (row t.known v) v ≡ 0 → HasNoEvent events v
  no_event v lt zero' a is =
      let le = (kept.known v lt).exact a is.event is.is in
      let covered = le.1 (a, (own is, inl refl)) in
      let here : slice_index (row t.known v) is.event.thread ≡ 0 = ap (λ (z : ℕ). slice_index (row t.known v) z) is.holds ∙ zero' in
      let some = positive events a is.event is.is in omega arith

  own_zero : (v : ℕ) → v < threads → HasNoEvent events v → slice_index (row t.known v) v ≡ 0
  own_zero v lt none = elim ((kept.known v lt).tight v) [ inl zero' ↦ zero' | inr is ↦ absurd (none (slice_index (row t.known v) v) is) ]

  moved_here : row moved e.thread ≡ raised (taken t e) e.thread e.number
  unfolding moved
  moved_here = row_at t.known e.thread (raised (taken t e) e.thread e.number) (omega (arith, kept.sized.known))

  moved_else : (v : ℕ) → (v ≡ e.thread → ⊥) → row moved v ≡ row t.known v
  unfolding moved
  moved_else v other = row_else t.known e.thread (raised (taken t e) e.thread e.number) v other

  moved_length : length moved ≡ threads
  unfolding moved
  moved_length = set_length threads t.known e.thread (raised (taken t e) e.thread e.number) kept.sized.known

  mine : Clock (joined_if (starts e.thread) (row moved e.thread) new_clock) (Knows (events ++ e ∷ []) e.thread)
  mine = clock_own events e reads _ (clock_same (events ++ e ∷ []) _ (λ m. (m ≡ suc (length events)) ⊎ ((starts e.thread ≡ true) × (m ≡ suc (length events)))) (λ m. m ≡ suc (length events))
      (λ m x. elim x [ inl is ↦ is | inr p ↦ p.1 ]) (λ m is. inl is)
      (clock_if (events ++ e ∷ []) (starts e.thread) (row moved e.thread) new_clock (λ m. m ≡ suc (length events)) (λ m. m ≡ suc (length events)) (λ m. (starts e.thread ≡ true) × (m ≡ suc (length events)))
      (subst (λ (c : List ℕ). Clock c (λ m. m ≡ suc (length events))) (sym moved_here) (raised_clock threads room events e t kept reads space thread numbered)) (λ _. is_new) (λ m is same. (is, same)) (λ m p. p)))

  starts_to : (v : ℕ) → v < threads → (v ≡ e.thread → ⊥) → starts v ≡ true → Starts events e reads v
  unfolding starts start_test
  starts_to v lt other is =
      let rest = right (is_create e.kind) _ is in
      let same = eqb-true v (t.created + 1) (left (nat_eq v (t.created + 1)) _ rest) in
      let test = right (nat_eq v (t.created + 1)) _ rest in
      let zero' = eqb-true (slice_index (row moved (t.created + 1)) (t.created + 1)) 0 (right (nat_lt (t.created + 1) (length moved)) _ test) in
      let zero'' : slice_index (row t.known v) v ≡ 0 = ap (λ (c : List ℕ). slice_index c v) (sym (moved_else v other)) ∙ (ap (λ (z : ℕ). slice_index (row moved z) z) same ∙ zero') in
      (left (is_create e.kind) _ is, (omega (arith, kept.count), no_event v lt zero''))

  starts_from : (v : ℕ) → v < threads → (v ≡ e.thread → ⊥) → Starts events e reads v → starts v ≡ true
  unfolding starts start_test
  starts_from v lt other s =
      let same : v ≡ t.created + 1 = omega (arith, kept.count, s.1.0) in
      let zero' : slice_index (row moved v) v ≡ 0 = ap (λ (c : List ℕ). slice_index c v) (moved_else v other) ∙ own_zero v lt s.1.1 in
      both (is_create e.kind) _ s.0 (both (nat_eq v (t.created + 1)) _ (eq-eqb v (t.created + 1) same)
      (both (nat_lt (t.created + 1) (length moved)) _ (lt-ltb (t.created + 1) (length moved) (omega (arith, moved_length)))
      (eq-eqb (slice_index (row moved (t.created + 1)) (t.created + 1)) 0 (ap (λ (z : ℕ). slice_index (row moved z) z) (sym same) ∙ zero'))))

  theirs : (v : ℕ) → v < threads → (v ≡ e.thread → ⊥) → Clock (joined_if (starts v) (row moved v) new_clock) (Knows (events ++ e ∷ []) v)
  theirs v lt other = clock_knows events e reads v (λ same. other (sym same)) (starts v) (row moved v) new_clock
      (subst (λ (c : List ℕ). IsClockOf events c (Knows events v)) (sym (moved_else v other)) (kept.known v lt)) is_new (starts_to v lt other) (starts_from v lt other)

  known_next : (v : ℕ) → v < threads → Clock (row u.known v) (Knows (events ++ e ∷ []) v)
  known_next v lt = subst (λ (c : List ℕ). Clock c (Knows (events ++ e ∷ []) v)) (sym (known_row v)) (dite (ℕ_discrete v e.thread)
      (λ (same : v ≡ e.thread). subst (λ (z : ℕ). Clock (joined_if (starts z) (row moved z) new_clock) (Knows (events ++ e ∷ []) z)) (sym same) mine)
      (λ (other : v ≡ e.thread → ⊥). theirs v lt other))

  -- mutexes

  holders_next : (mutex : ℕ) → (u.mutexes mutex).holder ≡ holder (events ++ e ∷ []) mutex
  holders_next mutex = ap (λ (s : MutexState). s.holder) (noted.mutexes mutex)
      ∙ (ap (λ (h : Option ℕ). holder_next h mutex e) (kept.holders mutex) ∙ sym (holder_more None mutex events e))

  last_next : (mutex : ℕ) → IsLastUnlock (events ++ e ∷ []) mutex (u.mutexes mutex).last_unlock
  last_next mutex = subst (λ (s : MutexState). IsLastUnlock (events ++ e ∷ []) mutex s.last_unlock) (sym (noted.mutexes mutex)) (by_test (option_is (unlocked_mutex e.kind) mutex) refl)
    where
      by_test : (b : Bool) → option_is (unlocked_mutex e.kind) mutex ≡ b → IsLastUnlock (events ++ e ∷ []) mutex (if b then e.number else (t.mutexes mutex).last_unlock)
      by_test true is = (
        inr (join_at events e (λ f. unlocked_mutex f.kind ≡ Some mutex) e.number numbered (option_is_some (unlocked_mutex e.kind) mutex is)),
        λ m x. omega (arith, at_below (events ++ e ∷ []) m (λ f. unlocked_mutex f.kind ≡ Some mutex) x, length-append events (e ∷ [])),
      )
      by_test false is = let last = kept.last_unlocks mutex in (
        elim last.0 [ inl zero' ↦ inl zero' | inr x ↦ inr (more events e (t.mutexes mutex).last_unlock (λ f. unlocked_mutex f.kind ≡ Some mutex) x) ],
        λ m x. elim (split_at events e (λ f. unlocked_mutex f.kind ≡ Some mutex) m x) [
          | inl y ↦ last.1 m y
          | inr p ↦ absurd (let clash : false ≡ true = sym is ∙ some_option_is (unlocked_mutex e.kind) mutex p.1 in cc)
        ],
      )

  -- the sizes

  size_passed : (x : ℕ) → x ≤ room → length (row t.passed x) ≡ threads
  size_passed x le = kept.sized.wide_passed x (omega (arith, kept.sized.passed))

  size_read : is_load e ≡ true → length (row t.passed e.from) ≡ threads
  size_read is = let loads = some_of (loaded_cell e.kind) is in size_passed e.from (let le = from_earlier threads room events e t kept reads space thread numbered loads.0 loads.1 in omega arith)

  size_if' : (b : Bool) (c d : List ℕ) → length c ≡ threads → (b ≡ true → length d ≡ threads) → length (joined_if b c d) ≡ threads
  size_if' b c d size other = size_if threads room events e t kept reads space thread numbered b c d size other

  size_stored : length (by_stored e t.passed t.fenced new_clock (row t.passed e.number)) ≡ threads
  size_stored = size_if' (is_store e && is_load e) _ (row t.passed e.from)
      (size_if' (is_release_store e.kind) _ new_clock (size_if' (is_store e) (row t.passed e.number) (row t.fenced e.thread) (size_passed e.number (omega arith)) (λ _. kept.sized.wide_fenced e.thread (omega (arith, kept.sized.fenced)))) (λ _. size_new))
      (λ two. size_read (right (is_store e) (is_load e) two))

  size_unlocked : (o : Option ℕ) (c : List ℕ) → length c ≡ threads → length (by_unlocked o t.mutexes t.passed new_clock c) ≡ threads
  size_unlocked None c size = size
  size_unlocked (Some mutex) c size =
      let first : length (joined c new_clock) ≡ threads = length_joined c new_clock (size_new ∙ sym size) ∙ size in
      let last : length (row t.passed (t.mutexes mutex).last_unlock) ≡ threads = size_passed (t.mutexes mutex).last_unlock (omega (arith, last_within threads room events e t kept reads space thread numbered mutex)) in
      length_joined (joined c new_clock) (row t.passed (t.mutexes mutex).last_unlock) (last ∙ sym first) ∙ first

  size_raised' : length (raised (taken t e) e.thread e.number) ≡ threads
  size_raised' = size_raised threads room events e t kept reads space thread numbered

  wide_moved : AreWide threads moved
  unfolding moved
  wide_moved = wide_set threads t.known e.thread (raised (taken t e) e.thread e.number) kept.sized.wide_known size_raised'

  known_sized : (b : Bool) (v : ℕ) → (length (if b then started moved new_clock v else moved) ≡ threads) × AreWide threads (if b then started moved new_clock v else moved)
  known_sized false v = (moved_length, wide_moved)
  known_sized true v = by_test (nat_lt v (length moved) && nat_eq (slice_index (row moved v) v) 0) refl
    where
      by_test : (b : Bool) → (nat_lt v (length moved) && nat_eq (slice_index (row moved v) v) 0) ≡ b → (length (if b then slice_set moved v (joined (row moved v) new_clock) else moved) ≡ threads) × AreWide threads (if b then slice_set moved v (joined (row moved v) new_clock) else moved)
      by_test false is = (moved_length, wide_moved)
      by_test true is =
          let size : length (row moved v) ≡ threads = wide_moved v (ltb-true v (length moved) (left _ _ is)) in
          (set_length threads moved v (joined (row moved v) new_clock) moved_length, wide_set threads moved v (joined (row moved v) new_clock) wide_moved (length_joined (row moved v) new_clock (size_new ∙ sym size) ∙ size))

  sized_next : AreSized threads room u
  unfolding new_clock moved
  sized_next = record {
    clocks = ap (λ (l : List (List ℕ)). length l) noted.clocks ∙ set_length (room + 1) t.clocks e.number new_clock kept.sized.clocks;
    passed = ap (λ (l : List (List ℕ)). length l) noted.passed ∙ set_length (room + 1) t.passed e.number (handed_on t e new_clock) kept.sized.passed;
    known = ap (λ (l : List (List ℕ)). length l) noted.known ∙ (known_sized (is_create e.kind) (t.created + 1)).0;
    fenced = ap (λ (l : List (List ℕ)). length l) noted.fenced ∙ set_length threads t.fenced e.thread (joined_if (is_release_fence e.kind) (row t.fenced e.thread) new_clock) kept.sized.fenced;
    read = ap (λ (l : List (List ℕ)). length l) noted.read ∙ set_length threads t.read e.thread (joined_if (is_load e) (row t.read e.thread) (row t.passed e.from)) kept.sized.read;
    ended = ap (λ (l : List (List ℕ)). length l) noted.ended ∙ set_length threads t.ended e.thread (joined_if (is_end e.kind) (row t.ended e.thread) new_clock) kept.sized.ended;
    wide_clocks = subst (AreWide threads) (sym noted.clocks) (wide_set threads t.clocks e.number new_clock kept.sized.wide_clocks size_new);
    wide_passed = subst (AreWide threads) (sym noted.passed) (wide_set threads t.passed e.number (handed_on t e new_clock) kept.sized.wide_passed (size_unlocked (unlocked_mutex e.kind) _ size_stored));
    wide_known = subst (AreWide threads) (sym noted.known) (known_sized (is_create e.kind) (t.created + 1)).1;
    wide_fenced = subst (AreWide threads) (sym noted.fenced) (wide_set threads t.fenced e.thread (joined_if (is_release_fence e.kind) (row t.fenced e.thread) new_clock) kept.sized.wide_fenced
        (size_if' (is_release_fence e.kind) (row t.fenced e.thread) new_clock (kept.sized.wide_fenced e.thread (omega (arith, kept.sized.fenced))) (λ _. size_new)));
    wide_read = subst (AreWide threads) (sym noted.read) (wide_set threads t.read e.thread (joined_if (is_load e) (row t.read e.thread) (row t.passed e.from)) kept.sized.wide_read
        (size_if' (is_load e) (row t.read e.thread) (row t.passed e.from) (kept.sized.wide_read e.thread (omega (arith, kept.sized.read))) size_read));
    wide_ended = subst (AreWide threads) (sym noted.ended) (wide_set threads t.ended e.thread (joined_if (is_end e.kind) (row t.ended e.thread) new_clock) kept.sized.wide_ended
        (size_if' (is_end e.kind) (row t.ended e.thread) new_clock (kept.sized.wide_ended e.thread (omega (arith, kept.sized.ended))) (λ _. size_new)));
  }

  longer : length (events ++ e ∷ []) ≡ suc (length events)
  longer = omega (arith, length-append events (e ∷ []))

  pub kept_next : IsKept threads room (events ++ e ∷ []) u
  unfolding new_clock
  kept_next = record {
    sized = sized_next;
    reads = reads;
    fits = omega (arith, longer);
    within = λ a f at. elim (old_or_new events e a (λ g. g ≡ f) (record { event = f; is = at; holds = refl })) [
      | inl le ↦ kept.within a f (event_less events (e ∷ []) a f le at)
      | inr new ↦ subst (λ (g : Event). g.thread < threads) new.1 thread
    ];
    count = noted.created ∙ (ap (λ (n : ℕ). n + cond (is_create e.kind) 1 0) kept.count ∙ sym (created_next events e));
    none = ap (λ (l : List (List ℕ)). row l 0) noted.passed ∙ (row_else t.passed e.number (handed_on t e new_clock) 0 (λ same. omega arith) ∙ kept.none);
    blank_clocks = λ b lt le. ap (λ (l : List (List ℕ)). row l b) noted.clocks ∙ (row_else t.clocks e.number new_clock b (λ same. omega (arith, longer)) ∙ kept.blank_clocks b (omega (arith, longer)) le);
    blank_passed = λ b lt le. ap (λ (l : List (List ℕ)). row l b) noted.passed ∙ (row_else t.passed e.number (handed_on t e new_clock) b (λ same. omega (arith, longer)) ∙ kept.blank_passed b (omega (arith, longer)) le);
    clocks = clocks_next;
    stores = stores_next;
    unlocks = unlocks_next;
    known = known_next;
    fenced = fenced_next;
    read = read_next;
    ended = ended_next;
    holders = holders_next;
    last_unlocks = last_next;
  }
