-- The tables before the first event.
use Rattle.std.proofs.Common.{◌≡◌, ℕ, zero, suc, ◌+◌, ◌<◌, true, List, [], Some, None, length, replicate, sym, ap, ◌∙◌, subst, arith, inl}
use Rattle.std.proofs.lemmas.List.{get_or-replicate, length-replicate}
use Rattle.c11_events.specs.declared.event.Event.{Event}
use Rattle.c11_events.specs.Events.{At, event_at, stored_cell, loaded_cell, unlocked_mutex, is_create, is_end, is_release_fence}
use Rattle.c11_happens.specs.declared.mutexes.MutexState.{MutexState}
use Rattle.c11_happens.specs.Marks.{IsClockOf, Knows, own, start, ReadBy, IsFenceOf, IsEndOf}
use Rattle.c11_happens.specs.Noting.{row, AreWide, Contents}
use Rattle.c11_happens.specs.Kept.{IsKept}
use Rattle.c11_happens.proofs.Clocks.{clock_zero}

-- there is no event yet
no_event : (a : ℕ) (e : Event) → event_at [] a ≡ Some e → ⊥
no_event zero e at = cc
no_event (suc a) e at = cc

nothing_at : (a : ℕ) (P : Event → Type 0) → At [] a P → ⊥
nothing_at a P t = no_event a t.event t.is

module _ (threads room : ℕ) where
  blank_row : (n : ℕ) (table : List (List ℕ)) → table ≡ replicate n (replicate threads 0) → (i : ℕ) → i < n → row table i ≡ replicate threads 0
  blank_row n table is i lt = ap (λ (l : List (List ℕ)). row l i) is ∙ get_or-replicate n i (replicate threads 0) [] lt

  blank_length : (n : ℕ) (table : List (List ℕ)) → table ≡ replicate n (replicate threads 0) → length table ≡ n
  blank_length n table is = ap (λ (l : List (List ℕ)). length l) is ∙ length-replicate n (replicate threads 0)

  blank_wide : (n : ℕ) (table : List (List ℕ)) → table ≡ replicate n (replicate threads 0) → AreWide threads table
  blank_wide n table is i lt = ap (λ (l : List ℕ). length l) (blank_row n table is i (omega (arith, blank_length n table is))) ∙ length-replicate threads 0

  blank_clock : (table : List (List ℕ)) → table ≡ replicate threads (replicate threads 0) → (thread : ℕ) → thread < threads → (M : ℕ → Type 0) → ((m : ℕ) → M m → ⊥) → IsClockOf [] (row table thread) M
  blank_clock table is thread lt M none = subst (λ (c : List ℕ). IsClockOf [] c M) (sym (blank_row threads table is thread lt)) (clock_zero [] threads M none)

  nothing_known : (thread m : ℕ) → Knows [] thread m → ⊥
  nothing_known thread m (own is) = nothing_at m (λ f. f.thread ≡ thread) is
  nothing_known thread m (start none is) = nothing_at m (λ f. is_create f.kind ≡ true) is.is

  module _ (t : Contents) (created : t.created ≡ 0) (clocks : t.clocks ≡ replicate (room + 1) (replicate threads 0)) (passed : t.passed ≡ replicate (room + 1) (replicate threads 0))
      (known : t.known ≡ replicate threads (replicate threads 0)) (fenced : t.fenced ≡ replicate threads (replicate threads 0)) (read : t.read ≡ replicate threads (replicate threads 0))
      (ended : t.ended ≡ replicate threads (replicate threads 0)) (mutexes : (mutex : ℕ) → t.mutexes mutex ≡ record { holder = None; last_unlock = 0 }) where
    pub kept_none : IsKept threads room [] t
    kept_none = record {
      sized = record {
        clocks = blank_length (room + 1) t.clocks clocks;
        passed = blank_length (room + 1) t.passed passed;
        known = blank_length threads t.known known;
        fenced = blank_length threads t.fenced fenced;
        read = blank_length threads t.read read;
        ended = blank_length threads t.ended ended;
        wide_clocks = blank_wide (room + 1) t.clocks clocks;
        wide_passed = blank_wide (room + 1) t.passed passed;
        wide_known = blank_wide threads t.known known;
        wide_fenced = blank_wide threads t.fenced fenced;
        wide_read = blank_wide threads t.read read;
        wide_ended = blank_wide threads t.ended ended;
      };
      reads = λ cell l x load. absurd (nothing_at l (λ f. (loaded_cell f.kind ≡ Some cell) × (f.from ≡ x)) load);
      fits = omega arith;
      within = λ a e at. absurd (no_event a e at);
      count = created;
      none = blank_row (room + 1) t.passed passed 0 (omega arith);
      blank_clocks = λ b lt le. blank_row (room + 1) t.clocks clocks b (omega arith);
      blank_passed = λ b lt le. blank_row (room + 1) t.passed passed b (omega arith);
      clocks = λ b e at. absurd (no_event b e at);
      stores = λ cell x is. absurd (nothing_at x (λ f. stored_cell f.kind ≡ Some cell) is);
      unlocks = λ mutex x is. absurd (nothing_at x (λ f. unlocked_mutex f.kind ≡ Some mutex) is);
      known = λ thread lt. blank_clock t.known known thread lt (Knows [] thread) (nothing_known thread);
      fenced = λ thread lt. blank_clock t.fenced fenced thread lt (IsFenceOf [] thread) (λ m is. nothing_at m (λ f. (is_release_fence f.kind ≡ true) × (f.thread ≡ thread)) is);
      read = λ thread lt. blank_clock t.read read thread lt (ReadBy [] thread) (λ m r. nothing_at r.l (λ f. f.thread ≡ thread) r.is);
      ended = λ thread lt. blank_clock t.ended ended thread lt (IsEndOf [] thread) (λ m is. nothing_at m (λ f. (is_end f.kind ≡ true) × (f.thread ≡ thread)) is);
      holders = λ mutex. ap (λ (s : MutexState). s.holder) (mutexes mutex);
      last_unlocks = λ mutex. (inl (ap (λ (s : MutexState). s.last_unlock) (mutexes mutex)), λ m is. absurd (nothing_at m (λ f. unlocked_mutex f.kind ≡ Some mutex) is));
    }
