-- Clocks and their marks.
use Rattle.std.proofs.Common.{◌≡◌, ℕ, zero, suc, ◌<◌, ◌≤◌, List, [], ◌∷◌, ◌++◌, Some, None, length, max, slice_index, slice_set, replicate, refl, sym, ◌∙◌, subst, arith, ◌⊎◌, inl, inr}
use Rattle.std.proofs.lemmas.List.{get_or-set_same, get_or-set_other}
use native.Mathlib.Decide.{ℕ_discrete, dec_le}
use mathlib.Core.Logic.{dite, ◌↔◌}
use Rattle.c11_clock.specs.Clocks.{joined}
use Rattle.c11_clock.proofs.Joined.{joined-each}
use Rattle.c11_events.specs.declared.event.Event.{Event}
use Rattle.c11_events.specs.Closure.{one, join}
use Rattle.c11_events.specs.Events.{event_at, ReadsEarlier}
use Rattle.c11_events.specs.HappensBefore.{HappensBefore, DirectlyBefore}
use Rattle.c11_events.proofs.DecideEvents.{at_below}
use Rattle.c11_events.proofs.Longer.{new_is, old_or_new}
use Rattle.c11_events.proofs.Newest.{happens_before_new}
use Rattle.c11_events.proofs.Prefix.{event_less, same_more, hb_more, hb_less}
use Rattle.c11_events.proofs.Rises.{hb_rises}
use Rattle.c11_happens.specs.Covers.{UpTo, IsOf}
use Rattle.c11_happens.specs.Marks.{Below, IsClockOf}

index-replicate : (n i : ℕ) → slice_index (replicate n 0) i ≡ 0
index-replicate zero i = refl
index-replicate (suc n) zero = refl
index-replicate (suc n) (suc i) = index-replicate n i

pub up_to_up_to : (events : List Event) (a b c : ℕ) → UpTo events b a → UpTo events c b → UpTo events c a
up_to_up_to events a b c (inl same) v = subst (λ (z : ℕ). UpTo events c z) (sym same) v
up_to_up_to events a b c (inr h) (inl same) = inr (subst (λ (z : ℕ). HappensBefore events a z) same h)
up_to_up_to events a b c (inr h) (inr k) = inr (join h k)

module _ (events : List Event) where
  -- a clock that is 0 at each thread stands for no mark
  pub clock_empty : (clock : List ℕ) (M : ℕ → Type 0) → ((thread : ℕ) → slice_index clock thread ≡ 0) → ((m : ℕ) → M m → ⊥) → IsClockOf events clock M
  clock_empty clock M zeros none = record {
    tight = λ thread. inl (zeros thread);
    exact = λ a e at. (λ le. absurd (empty a e at (omega (arith, zeros e.thread))), λ b. absurd (none b.0 b.1.0));
  }
    where
      empty : (a : ℕ) (e : Event) → event_at events a ≡ Some e → a ≤ 0 → ⊥
      empty zero e at le = let none' : None ≡ Some e = at in cc
      empty (suc a) e at le = omega arith

  pub clock_zero : (n : ℕ) (M : ℕ → Type 0) → ((m : ℕ) → M m → ⊥) → IsClockOf events (replicate n 0) M
  clock_zero n M none = clock_empty (replicate n 0) M (index-replicate n) none

  -- a join stands for the marks of both
  pub clock_join : (c d : List ℕ) (M N : ℕ → Type 0) → IsClockOf events c M → IsClockOf events d N → IsClockOf events (joined c d) (λ m. M m ⊎ N m)
  clock_join c d M N k l = record {
    tight = λ thread. dite (dec_le (slice_index d thread) (slice_index c thread))
        (λ (le : slice_index d thread ≤ slice_index c thread). let e : slice_index (joined c d) thread ≡ slice_index c thread = omega (arith, joined-each c d thread) in rw e (k.tight thread))
        (λ (no' : slice_index d thread ≤ slice_index c thread → ⊥). let e : slice_index (joined c d) thread ≡ slice_index d thread = omega (arith, joined-each c d thread) in rw e (l.tight thread));
    exact = λ a e at. (to a e at, λ b. elim b.1.0 [ inl m ↦ omega (arith, joined-each c d e.thread, (k.exact a e at).1 (b.0, (m, b.1.1))) | inr m ↦ omega (arith, joined-each c d e.thread, (l.exact a e at).1 (b.0, (m, b.1.1))) ]);
  }
    where
      to : (a : ℕ) (e : Event) → event_at events a ≡ Some e → a ≤ slice_index (joined c d) e.thread → Below events (λ m. M m ⊎ N m) a
      to a e at le = dite (dec_le a (slice_index c e.thread))
          (λ (le' : a ≤ slice_index c e.thread). let b = (k.exact a e at).0 le' in (b.0, (inl b.1.0, b.1.1)))
          (λ (no' : a ≤ slice_index c e.thread → ⊥). let b = (l.exact a e at).0 (omega (arith, joined-each c d e.thread)) in (b.0, (inr b.1.0, b.1.1)))

  -- marks of which each is below one of the others, and back, make the same clock
  pub clock_below : (c : List ℕ) (M N : ℕ → Type 0) → ((m : ℕ) → M m → Below events N m) → ((m : ℕ) → N m → Below events M m) → IsClockOf events c M → IsClockOf events c N
  clock_below c M N to from k = record {
    tight = k.tight;
    exact = λ a e at. (
      λ le. let b = (k.exact a e at).0 le in let t = to b.0 b.1.0 in (t.0, (t.1.0, up_to_up_to events a b.0 t.0 b.1.1 t.1.1)),
      λ b. let t = from b.0 b.1.0 in (k.exact a e at).1 (t.0, (t.1.0, up_to_up_to events a b.0 t.0 b.1.1 t.1.1)),
    );
  }

  pub clock_same : (c : List ℕ) (M N : ℕ → Type 0) → ((m : ℕ) → M m → N m) → ((m : ℕ) → N m → M m) → IsClockOf events c M → IsClockOf events c N
  clock_same c M N to from k = clock_below c M N (λ m is. (m, (to m is, inl refl))) (λ m is. (m, (from m is, inl refl))) k

module _ (events : List Event) (e : Event) (reads : ReadsEarlier (events ++ e ∷ [])) where
  up_to_more : (a b : ℕ) → UpTo events b a → UpTo (events ++ e ∷ []) b a
  up_to_more a b (inl same) = inl same
  up_to_more a b (inr h) = inr (hb_more events (e ∷ []) a b h)

  up_to_less : (a b : ℕ) → b ≤ length events → UpTo (events ++ e ∷ []) b a → UpTo events b a
  up_to_less a b le (inl same) = inl same
  up_to_less a b le (inr h) = inr (hb_less events (e ∷ []) reads a b le h)

  is_old_or_new : (a : ℕ) (f : Event) → event_at (events ++ e ∷ []) a ≡ Some f → (a ≤ length events) ⊎ ((a ≡ suc (length events)) × (e ≡ f))
  is_old_or_new a f at = old_or_new events e a (λ (g : Event). g ≡ f) (record { event = f; is = at; holds = refl })

  tight_more : (c : List ℕ) → ((thread : ℕ) → (slice_index c thread ≡ 0) ⊎ IsOf events thread (slice_index c thread)) → (thread : ℕ) → (slice_index c thread ≡ 0) ⊎ IsOf (events ++ e ∷ []) thread (slice_index c thread)
  tight_more c tight thread = elim (tight thread) [ inl none ↦ inl none | inr is ↦ inr (same_more events (e ∷ []) (slice_index c thread) (λ (f : Event). f.thread ≡ thread) is) ]

  -- no number of a clock is that of a later event
  within : (c : List ℕ) → ((thread : ℕ) → (slice_index c thread ≡ 0) ⊎ IsOf events thread (slice_index c thread)) → (thread : ℕ) → slice_index c thread ≤ length events
  within c tight thread = elim (tight thread) [ inl none ↦ omega arith | inr is ↦ omega (arith, at_below events (slice_index c thread) (λ (f : Event). f.thread ≡ thread) is) ]

  -- a clock stands for the same marks in a longer list
  pub clock_more : (c : List ℕ) (M : ℕ → Type 0) → ((m : ℕ) → M m → m ≤ length events) → IsClockOf events c M → IsClockOf (events ++ e ∷ []) c M
  clock_more c M below k = record {
    tight = tight_more c k.tight;
    exact = λ a f at. elim (is_old_or_new a f at) [
      | inl le ↦ (
        λ less. let b = (k.exact a f (event_less events (e ∷ []) a f le at)).0 less in (b.0, (b.1.0, up_to_more a b.0 b.1.1)),
        λ b. (k.exact a f (event_less events (e ∷ []) a f le at)).1 (b.0, (b.1.0, up_to_less a b.0 (below b.0 b.1.0) b.1.1)),
      )
      | inr new ↦ (
        λ less. absurd (omega (arith, new.0, within c k.tight f.thread)),
        λ b. absurd (not_below a new.0 b.0 (below b.0 b.1.0) b.1.1),
      )
    ];
  }
    where
      not_below : (a : ℕ) → a ≡ suc (length events) → (m : ℕ) → m ≤ length events → UpTo (events ++ e ∷ []) m a → ⊥
      not_below a new m le (inl same) = omega arith
      not_below a new m le (inr h) = omega (arith, hb_rises (events ++ e ∷ []) a m reads h)

  -- where the marks are those with a step to the new event, the clock with the new number at its thread is that of the new event
  module _ (c : List ℕ) (M : ℕ → Type 0) (k : IsClockOf events c M) (room : e.thread < length c)
      (to : (m : ℕ) → M m → DirectlyBefore (events ++ e ∷ []) m (suc (length events))) (from : (m : ℕ) → DirectlyBefore (events ++ e ∷ []) m (suc (length events)) → M m) where
    raised : List ℕ
    raised = slice_set c e.thread (max (slice_index c e.thread) (suc (length events)))

    at_own : slice_index raised e.thread ≡ suc (length events)
    unfolding raised
    at_own = get_or-set_same c e.thread (max (slice_index c e.thread) (suc (length events))) 0 room ∙ omega (arith, within c k.tight e.thread)

    at_other : (thread : ℕ) → (thread ≡ e.thread → ⊥) → slice_index raised thread ≡ slice_index c thread
    unfolding raised
    at_other thread other = get_or-set_other c e.thread thread (max (slice_index c e.thread) (suc (length events))) 0 other

    new_event : IsOf (events ++ e ∷ []) e.thread (suc (length events))
    new_event = record { event = e; is = new_is events e; holds = refl }

    tight : (thread : ℕ) → (slice_index raised thread ≡ 0) ⊎ IsOf (events ++ e ∷ []) thread (slice_index raised thread)
    tight thread = dite (ℕ_discrete thread e.thread)
        (λ (same : thread ≡ e.thread). inr (subst (λ (u : ℕ). IsOf (events ++ e ∷ []) u (slice_index raised u)) (sym same) (subst (λ (z : ℕ). IsOf (events ++ e ∷ []) e.thread z) (sym at_own) new_event)))
        (λ (other : thread ≡ e.thread → ⊥). rw (at_other thread other) (tight_more c k.tight thread))

    program : (a : ℕ) (f : Event) → event_at (events ++ e ∷ []) a ≡ Some f → a ≤ length events → f.thread ≡ e.thread → UpTo (events ++ e ∷ []) (suc (length events)) a
    program a f at le same = inr (one (inl (record {
      thread = record { event = f; is = at; holds = record { event = e; is = new_is events e; holds = same } };
      earlier = omega arith;
    })))

    by_step : (a : ℕ) → Below events M a → UpTo (events ++ e ∷ []) (suc (length events)) a
    by_step a b = inr ((happens_before_new events e a reads).1 (b.0, (to b.0 b.1.0, b.1.1)))

    of_step : (a : ℕ) → a ≤ length events → UpTo (events ++ e ∷ []) (suc (length events)) a → Below events M a
    of_step a le (inl same) = absurd (omega arith)
    of_step a le (inr h) = let t = (happens_before_new events e a reads).0 h in (t.0, (from t.0 t.1.0, t.1.1))

    abbrev Exact : ℕ → Event → Type 0
    Exact a f = (a ≤ slice_index raised f.thread) ↔ Below (events ++ e ∷ []) (λ m. m ≡ suc (length events)) a

    old_exact : (a : ℕ) (f : Event) → event_at (events ++ e ∷ []) a ≡ Some f → a ≤ length events → Exact a f
    old_exact a f at le = dite (ℕ_discrete f.thread e.thread)
        (λ (same : f.thread ≡ e.thread). (λ less. (suc (length events), (refl, program a f at le same)), λ b. rw same (omega (arith, at_own))))
        (λ (other : f.thread ≡ e.thread → ⊥). let old = k.exact a f (event_less events (e ∷ []) a f le at) in (
          λ less. (suc (length events), (refl, by_step a (old.0 (omega (arith, at_other f.thread other))))),
          λ b. omega (arith, at_other f.thread other, old.1 (of_step a le (subst (λ (z : ℕ). UpTo (events ++ e ∷ []) z a) b.1.0 b.1.1))),
        ))

    new_exact : (a : ℕ) (f : Event) → a ≡ suc (length events) → e ≡ f → Exact a f
    new_exact a f new is = (λ less. (a, (new, inl refl)), λ b. subst (λ (g : Event). a ≤ slice_index raised g.thread) is (omega (arith, at_own)))

    pub clock_new : IsClockOf (events ++ e ∷ []) (slice_set c e.thread (max (slice_index c e.thread) (suc (length events)))) (λ m. m ≡ suc (length events))
    unfolding raised
    clock_new = record { tight = tight; exact = λ a f at. elim (is_old_or_new a f at) [ inl le ↦ old_exact a f at le | inr new ↦ new_exact a f new.0 new.1 ] }
