-- Lists of events that differ in texts alone have the same happens-before.
use Rattle.std.proofs.Common.{◌≡◌, ℕ, zero, suc, ◌+◌, ◌-◌, ◌≤◌, true, cond, slice_index, List, [], ◌∷◌, Option, Some, None, map, take, nat_eq, slice_get, refl, sym, ap, ◌∙◌, subst, inl, inr}
use Rattle.std.proofs.lemmas.List.Sums.{sum_by-cons}
use Rattle.c11_events.specs.declared.event.Event.{Event}
use Rattle.c11_events.specs.declared.event.EventKind.{EventKind}
use Rattle.c11_events.specs.declared.event.EventKind.TheVariants.{Out}
use Rattle.c11_events.specs.Events.{At, event_at, IsStore, IsLoad, IsRmw, stored_cell, loaded_cell, is_release_store, is_release_fence, is_acquire_load, is_acquire_fence, locked_mutex, unlocked_mutex, is_create, is_end, joined_thread}
use Rattle.c11_events.specs.HappensBefore.{ProgramOrder, ReleaseSequence, here, next, ReadsSequence, CreateBeforeFirst, SynchronizesWith, release_to_acquire, fence_to_acquire, release_to_fence, fence_to_fence, unlock_to_lock, create_to_first, end_to_join, DirectlyBefore, HappensBefore}
use Rattle.c11_events.specs.Threads.{holder, holder_from, holder_next, created, option_is}
use Rattle.c11_events.proofs.Prefix.{closure_map}
use Rattle.c11_happens.specs.Covers.{UpTo, CoversExactly, HasNoEvent, IsLastOf, IsCreateOf}
use Rattle.c11_happens.specs.Laws.{TextsDoNotMatter}
use Rattle.c11_happens.specs.Trace.{textless, textless_kind}

-- what does not see the text of an Out is the same without it
same_kind : {X : Type 0} (f : EventKind → X) → ((bytes : List ℕ) → f (Out []) ≡ f (Out bytes)) → (kind : EventKind) → f (textless_kind kind) ≡ f kind
same_kind f blind (Out bytes) = blind bytes
same_kind f blind _ = refl

-- the events differ in their texts alone
abbrev Alike : Event → Event → Type 0
Alike e f = textless e ≡ textless f

alike_kind : {X : Type 0} (f : EventKind → X) → ((bytes : List ℕ) → f (Out []) ≡ f (Out bytes)) → (d e : Event) → Alike d e → f d.kind ≡ f e.kind
alike_kind f blind d e same = sym (same_kind f blind d.kind) ∙ (ap (λ (g : Event). f g.kind) same ∙ same_kind f blind e.kind)

abbrev AreAlike : List Event → List Event → Type 0
AreAlike events others = (a : ℕ) (e : Event) → event_at events a ≡ Some e → At others a (Alike e)

module _ (events others : List Event) (alike : AreAlike events others) where
  at_other : (a : ℕ) (P Q : Event → Type 0) → ((d e : Event) → Alike d e → P d → Q e) → At events a P → At others a Q
  at_other a P Q f t = let s = alike a t.event t.is in record { event = s.event; is = s.is; holds = f t.event s.event s.holds t.holds }

  kind_at : {X : Type 0} (f : EventKind → X) → ((bytes : List ℕ) → f (Out []) ≡ f (Out bytes)) → (a : ℕ) (x : X) → At events a (λ e. f e.kind ≡ x) → At others a (λ e. f e.kind ≡ x)
  kind_at f blind a x t = at_other a (λ e. f e.kind ≡ x) (λ e. f e.kind ≡ x) (λ d e same is. sym (alike_kind f blind d e same) ∙ is) t

  thread_at : (a u : ℕ) → At events a (λ e. e.thread ≡ u) → At others a (λ e. e.thread ≡ u)
  thread_at a u t = at_other a (λ e. e.thread ≡ u) (λ e. e.thread ≡ u) (λ d e same is. ap (λ (g : Event). g.thread) (sym same) ∙ is) t

  store_at : (cell x : ℕ) → IsStore events cell x → IsStore others cell x
  store_at cell x t = kind_at stored_cell (λ _. refl) x (Some cell) t

  load_at : (cell l x : ℕ) → IsLoad events cell l x → IsLoad others cell l x
  load_at cell l x t = at_other l (λ e. (loaded_cell e.kind ≡ Some cell) × (e.from ≡ x)) (λ e. (loaded_cell e.kind ≡ Some cell) × (e.from ≡ x))
      (λ d e same is. (sym (alike_kind loaded_cell (λ _. refl) d e same) ∙ is.0, ap (λ (g : Event). g.from) (sym same) ∙ is.1)) t

  rmw_at : (cell b x : ℕ) → IsRmw events cell b x → IsRmw others cell b x
  rmw_at cell b x t = at_other b (λ e. (stored_cell e.kind ≡ Some cell) × (loaded_cell e.kind ≡ Some cell) × (e.from ≡ x)) (λ e. (stored_cell e.kind ≡ Some cell) × (loaded_cell e.kind ≡ Some cell) × (e.from ≡ x))
      (λ d e same is. (sym (alike_kind stored_cell (λ _. refl) d e same) ∙ is.0, sym (alike_kind loaded_cell (λ _. refl) d e same) ∙ is.1, ap (λ (g : Event). g.from) (sym same) ∙ is.2)) t

  order_at : (a b : ℕ) → ProgramOrder events a b → ProgramOrder others a b
  order_at a b o = record {
    earlier = o.earlier;
    thread = at_other a (λ d. At events b (λ e. d.thread ≡ e.thread)) (λ d. At others b (λ e. d.thread ≡ e.thread))
        (λ d d' same t. at_other b (λ e. d.thread ≡ e.thread) (λ e. d'.thread ≡ e.thread) (λ e e' same' is. ap (λ (g : Event). g.thread) (sym same) ∙ (is ∙ ap (λ (g : Event). g.thread) same')) t) o.thread;
  }

  chain_at : (cell s n x : ℕ) → ReleaseSequence events cell s n x → ReleaseSequence others cell s n x
  chain_at cell s _ _ (here is) = here (store_at cell s is)
  chain_at cell s _ _ (next {n = n} {y = y} {x = x} chain is) = next (chain_at cell s n y chain) (rmw_at cell x y is)

  reads_at : (s l : ℕ) → ReadsSequence events s l → ReadsSequence others s l
  reads_at s l r = record { cell = r.cell; n = r.n; x = r.x; sequence = chain_at r.cell s r.n r.x r.sequence; reads = load_at r.cell l r.x r.reads }

  module _ (back : AreAlike others events) (counts : (a : ℕ) → created (take a events) ≡ created (take a others)) (holders : (a mutex : ℕ) → holder (take a events) mutex ≡ holder (take a others) mutex) where
    thread_back : (a u : ℕ) → At others a (λ e. e.thread ≡ u) → At events a (λ e. e.thread ≡ u)
    thread_back a u t = let s = back a t.event t.is in record { event = s.event; is = s.is; holds = ap (λ (g : Event). g.thread) (sym s.holds) ∙ t.holds }

    create_at : (a b : ℕ) → CreateBeforeFirst events a b → CreateBeforeFirst others a b
    create_at a b c = record {
      create = kind_at is_create (λ _. refl) a true c.create;
      thread = subst (λ (u : ℕ). At others b (λ e. e.thread ≡ u)) (counts a) (thread_at b (created (take a events)) c.thread);
      first = λ d lt t. c.first d lt (thread_back d (created (take a events)) (subst (λ (u : ℕ). At others d (λ e. e.thread ≡ u)) (sym (counts a)) t));
      earlier = c.earlier;
    }

    sync_at : (a b : ℕ) → SynchronizesWith events a b → SynchronizesWith others a b
    sync_at a b (release_to_acquire is r is') = release_to_acquire (kind_at is_release_store (λ _. refl) a true is) (reads_at a b r) (kind_at is_acquire_load (λ _. refl) b true is')
    sync_at a b (fence_to_acquire {s = s} is o r is') = fence_to_acquire {s = s} (kind_at is_release_fence (λ _. refl) a true is) (order_at a s o) (reads_at s b r) (kind_at is_acquire_load (λ _. refl) b true is')
    sync_at a b (release_to_fence {l = l} is r o is') = release_to_fence {l = l} (kind_at is_release_store (λ _. refl) a true is) (reads_at a l r) (order_at l b o) (kind_at is_acquire_fence (λ _. refl) b true is')
    sync_at a b (fence_to_fence {s = s} {l = l} is o r o' is') =
        fence_to_fence {s = s} {l = l} (kind_at is_release_fence (λ _. refl) a true is) (order_at a s o) (reads_at s l r) (order_at l b o') (kind_at is_acquire_fence (λ _. refl) b true is')
    sync_at a b (unlock_to_lock u) = unlock_to_lock (record {
      mutex = u.mutex;
      unlock = kind_at unlocked_mutex (λ _. refl) a (Some u.mutex) u.unlock;
      lock = kind_at locked_mutex (λ _. refl) b (Some u.mutex) u.lock;
      free = sym (holders (b - 1) u.mutex) ∙ u.free;
      earlier = u.earlier;
    })
    sync_at a b (create_to_first c) = create_to_first (create_at a b c)
    sync_at a b (end_to_join j) = end_to_join (record {
      earlier = j.earlier;
      end = at_other a (λ d. (is_end d.kind ≡ true) × At events b (λ e. joined_thread e.kind ≡ Some d.thread)) (λ d. (is_end d.kind ≡ true) × At others b (λ e. joined_thread e.kind ≡ Some d.thread))
          (λ d d' same is. (sym (alike_kind is_end (λ _. refl) d d' same) ∙ is.0, subst (λ (u : ℕ). At others b (λ e. joined_thread e.kind ≡ Some u)) (ap (λ (g : Event). g.thread) same) (kind_at joined_thread (λ _. refl) b (Some d.thread) is.1))) j.end;
    })

    step_at : (a b : ℕ) → DirectlyBefore events a b → DirectlyBefore others a b
    step_at a b (inl o) = inl (order_at a b o)
    step_at a b (inr s) = inr (sync_at a b s)

    before_at : (a b : ℕ) → HappensBefore events a b → HappensBefore others a b
    before_at a b h = closure_map (DirectlyBefore events) (DirectlyBefore others) step_at a b h

    created_at : (thread c : ℕ) → IsCreateOf events thread c → IsCreateOf others thread c
    created_at thread c is = record { is = kind_at is_create (λ _. refl) c true is.is; creates = sym (counts c) ∙ is.creates }

    up_to_at : (a b : ℕ) → UpTo events b a → UpTo others b a
    up_to_at a b (inl same) = inl same
    up_to_at a b (inr h) = inr (before_at a b h)

    last_at : (thread b : ℕ) → IsLastOf events thread b → IsLastOf others thread b
    last_at thread b is = record { is = thread_at b thread is.is; last = λ a t. is.last a (thread_back a thread t) }

    none_at : (thread : ℕ) → HasNoEvent events thread → HasNoEvent others thread
    none_at thread none a t = none a (thread_back a thread t)

-- the events without texts

same_twice : (e : Event) → Alike e (textless e)
same_twice e i = record { number = e.number; thread = e.thread; kind = sym (same_kind textless_kind (λ _. refl) e.kind) i; from = e.from }

get_without : (events : List Event) (place : ℕ) (e : Event) → slice_get events place ≡ Some e → slice_get (map textless events) place ≡ Some (textless e)
get_without [] place e at = cc
get_without (f ∷ events) zero e at = let same : f ≡ e = cc in ap (λ (g : Event). Some (textless g)) same
get_without (f ∷ events) (suc place) e at = get_without events place e at

get_with : (events : List Event) (place : ℕ) (g : Event) → slice_get (map textless events) place ≡ Some g → (e : Event) × ((slice_get events place ≡ Some e) × (textless e ≡ g))
get_with [] place g at = cc
get_with (f ∷ events) zero g at = (f, (refl, cc))
get_with (f ∷ events) (suc place) g at = get_with events place g at

without : (events : List Event) → AreAlike events (map textless events)
without events zero e at = cc
without events (suc place) e at = record { event = textless e; is = get_without events place e at; holds = same_twice e }

with_texts : (events : List Event) → AreAlike (map textless events) events
with_texts events zero g at = cc
with_texts events (suc place) g at = let t = get_with events place g at in record { event = t.0; is = t.1.0; holds = sym (same_twice t.0 ∙ ap textless t.1.1) }

created_same : (a : ℕ) (events : List Event) → created (take a events) ≡ created (take a (map textless events))
created_same zero events = refl
created_same (suc a) [] = refl
created_same (suc a) (e ∷ events) = sum_by-cons (λ (f : Event). cond (is_create f.kind) 1 0) e (take a events)
    ∙ (λ i. cond (sym (same_kind is_create (λ _. refl) e.kind) i) 1 0 + created_same a events i)
    ∙ sym (sum_by-cons (λ (f : Event). cond (is_create f.kind) 1 0) (textless e) (take a (map textless events)))

holder_same : (held : Option ℕ) (mutex a : ℕ) (events : List Event) → holder_from held mutex (take a events) ≡ holder_from held mutex (take a (map textless events))
holder_same held mutex zero events = refl
holder_same held mutex (suc a) [] = refl
holder_same held mutex (suc a) (e ∷ events) = holder_same (holder_next held mutex e) mutex a events ∙ ap (λ (h : Option ℕ). holder_from h mutex (take a (map textless events))) (next_same held)
  where
    next_same : (h : Option ℕ) → holder_next h mutex e ≡ holder_next h mutex (textless e)
    next_same None = ap (λ (o : Option ℕ). cond (option_is o mutex) (Some e.thread) None) (sym (same_kind locked_mutex (λ _. refl) e.kind))
    next_same (Some u) = ap (λ (o : Option ℕ). cond (option_is o mutex) (cond (nat_eq e.thread u) None (Some u)) (Some u)) (sym (same_kind unlocked_mutex (λ _. refl) e.kind))

covers_at : (events others : List Event) (alike : AreAlike others events) (clock : List ℕ) (P Q : ℕ → Type 0) → ((a : ℕ) → P a → Q a) → ((a : ℕ) → Q a → P a)
    → CoversExactly events clock P → CoversExactly others clock Q
covers_at events others alike clock P Q to from covers a e at =
    let t = alike a e at in
    let exact = covers a t.event t.is in
    let thread : e.thread ≡ t.event.thread = ap (λ (g : Event). g.thread) t.holds in
    (λ le. to a (exact.0 (subst (λ (u : ℕ). a ≤ slice_index clock u) thread le)), λ u. subst (λ (u : ℕ). a ≤ slice_index clock u) (sym thread) (exact.1 (from a u)))

pub texts_do_not_matter : TextsDoNotMatter
texts_do_not_matter events =
    let less = map textless events in
    let counts = λ (a : ℕ). created_same a events in
    let holders = λ (a mutex : ℕ). holder_same None mutex a events in
    let back = λ (a : ℕ). sym (counts a) in
    let backs = λ (a mutex : ℕ). sym (holders a mutex) in
    record {
      before = λ a b. (before_at less events (with_texts events) (without events) back backs a b, before_at events less (without events) (with_texts events) counts holders a b);
      stores = λ cell x. (store_at less events (with_texts events) cell x, store_at events less (without events) cell x);
      last = λ thread b. (last_at less events (with_texts events) (without events) back backs thread b, last_at events less (without events) (with_texts events) counts holders thread b);
      creates = λ thread c. (created_at less events (with_texts events) (without events) back backs thread c, created_at events less (without events) (with_texts events) counts holders thread c);
      none = λ thread. (none_at less events (with_texts events) (without events) back backs thread, none_at events less (without events) (with_texts events) counts holders thread);
      covers = λ clock b. (
        covers_at less events (without events) clock (UpTo less b) (UpTo events b) (λ a. up_to_at less events (with_texts events) (without events) back backs a b) (λ a. up_to_at events less (without events) (with_texts events) counts holders a b),
        covers_at events less (with_texts events) clock (UpTo events b) (UpTo less b) (λ a. up_to_at events less (without events) (with_texts events) counts holders a b) (λ a. up_to_at less events (with_texts events) (without events) back backs a b),
      );
      nothing = λ clock. (covers_at less events (without events) clock (λ _. ⊥) (λ _. ⊥) (λ a p. p) (λ a p. p), covers_at events less (with_texts events) clock (λ _. ⊥) (λ _. ⊥) (λ a p. p) (λ a p. p));
    }
