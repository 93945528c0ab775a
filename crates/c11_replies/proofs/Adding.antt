-- What is kept stands for the events with one more, once that event has changed it.
use Rattle.std.proofs.Common.{◌≡◌, ℕ, ◌+◌, Bool, true, false, cond, ◌&&◌, ◌||◌, List, [], ◌∷◌, ◌++◌, Option, Some, None, ℤ, slice_get, get_or, nat_eq, unwrap_or, if◌then◌else◌, refl, sym, ap, ◌∙◌, subst, arith}
use Rattle.std.proofs.lemmas.Bool.{eqb-true, eqb-false}
use Rattle.std.proofs.Math.Bool.{or-false}
use Rattle.std.proofs.lemmas.Option.{slice_get-get_or, slice_get_within}
use Rattle.c11_num.specs.Ranges.{TypedNumber}
use Rattle.c11_events.specs.declared.event.Event.{Event}
use Rattle.c11_events.specs.declared.event.EventKind.{EventKind}
use Rattle.c11_events.specs.declared.event.EventKind.TheVariants.{PlainWrite, MutexInit, Lock, TryLock, Unlock, Create, End, Join}
use Rattle.c11_events.specs.declared.reply.Reply.TheVariants.{Began}
use Rattle.c11_events.specs.Events.{initialised_mutex, locked_mutex, unlocked_mutex, is_create, is_end, joined_thread}
use Rattle.c11_events.specs.Threads.{option_is, created, has_ended, is_joined, holder_next}
use Rattle.c11_events.specs.Replies.{Setting, initial_of, began, told_by, written_to, ended_with, end_value}
use Rattle.c11_replies.specs.declared.threads.ThreadState.{ThreadState}
use Rattle.c11_replies.specs.declared.mutexes.MutexState.{MutexState}
use Rattle.c11_replies.specs.Words.{Words, IsThreadAfter, IsMutexAfter, StandsFor}
use Rattle.c11_replies.specs.Changed.{AreChanged, thread_next, taken, freed, mutex_next, value_next}
use Rattle.c11_replies.proofs.Extending.{ended_more, joined_more, initialised_more, end_value_more, plain_value_more, created_more, began_other, began_elsewhere, began_new, holder_more}

-- what stands in a changed list was there before the change
before : {X : Type 0} (change : ℕ → X → X) (old new : List X) (i : ℕ) (y : X) → AreChanged change old new → slice_get new i ≡ Some y → (x : X) × (slice_get old i ≡ Some x) × (y ≡ change i x)
before change old new i y changed at =
    let x = get_or old i y in
    let was : slice_get old i ≡ Some x = slice_get-get_or old i y (omega (arith, changed.count, slice_get_within new i y at)) in
    let both : Some y ≡ Some (change i x) = sym at ∙ changed.each i x was in
    (x, was, cc)

-- the states of a thread

module _ (a u : ℕ) (state : ThreadState) (ended : Bool) (value : ℤ) (is : state.ended ≡ (if ended then Some value else None)) where
  abbrev AsEnded : Option ℤ → Bool → EventKind → Type 0
  AsEnded now b kind = now ≡ (if (ended || (b && is_end kind)) then Some (unwrap_or (if b then ended_with kind else None) value) else None)

  ended_now : (b : Bool) (v : ℤ) → (if b then record state { ended = Some v } else state).ended ≡ (if (ended || (b && true)) then Some (unwrap_or (if b then Some v else None) value) else None)
  ended_now true v = elim ended as (λ (w : Bool). Some v ≡ (if (w || true) then Some v else None)) [ true ↦ refl | false ↦ refl ]
  ended_now false v = is ∙ ap (λ (w : Bool). if w then Some value else None) (sym (or-false ended))

  as_before : (b : Bool) → state.ended ≡ (if (ended || (b && false)) then Some (unwrap_or (if b then None else None) value) else None)
  as_before true = is ∙ ap (λ (w : Bool). if w then Some value else None) (sym (or-false ended))
  as_before false = is ∙ ap (λ (w : Bool). if w then Some value else None) (sym (or-false ended))

  told_only : (b : Bool) (f : ℕ) (g : ℤ) → (if b then record state { told = Began f g } else state).ended ≡ state.ended
  told_only true f g = refl
  told_only false f g = refl

  joined_only : (b : Bool) → (if b then record state { joined = true } else state).ended ≡ state.ended
  joined_only true = refl
  joined_only false = refl

  thread_ended : (c : ℕ) (kind : EventKind) → (thread_next c a kind u state).ended ≡ (if (ended || (nat_eq a u && is_end kind)) then Some (unwrap_or (if nat_eq a u then ended_with kind else None) value) else None)
  thread_ended c (Create f g) = told_only (nat_eq (c + 1) u) f g ∙ as_before (nat_eq a u)
  thread_ended c (End v) = ended_now (nat_eq a u) v
  thread_ended c (Join t) = joined_only (nat_eq t u) ∙ as_before (nat_eq a u)
  thread_ended c _ = as_before (nat_eq a u)

module _ (a u : ℕ) (state : ThreadState) (joined : Bool) (is : state.joined ≡ joined) where
  joined_now : (b : Bool) → (if b then record state { joined = true } else state).joined ≡ (joined || b)
  joined_now true = elim joined as (λ (w : Bool). true ≡ (w || true)) [ true ↦ refl | false ↦ refl ]
  joined_now false = is ∙ sym (or-false joined)

  told_else : (b : Bool) (f : ℕ) (g : ℤ) → (if b then record state { told = Began f g } else state).joined ≡ (joined || false)
  told_else true f g = is ∙ sym (or-false joined)
  told_else false f g = is ∙ sym (or-false joined)

  ended_else : (b : Bool) (v : ℤ) → (if b then record state { ended = Some v } else state).joined ≡ (joined || false)
  ended_else true v = is ∙ sym (or-false joined)
  ended_else false v = is ∙ sym (or-false joined)

  thread_joined : (c : ℕ) (kind : EventKind) → (thread_next c a kind u state).joined ≡ (joined || option_is (joined_thread kind) u)
  thread_joined c (Create f g) = told_else (nat_eq (c + 1) u) f g
  thread_joined c (End v) = ended_else (nat_eq a u) v
  thread_joined c (Join t) = joined_now (nat_eq t u)
  thread_joined c _ = is ∙ sym (or-false joined)

module _ (setting : Setting) (events : List Event) (e : Event) (u : ℕ) (state : ThreadState) (is : state.told ≡ began setting events u) where
  told_new : (f : ℕ) (g : ℤ) → e.kind ≡ Create f g → (b : Bool) → nat_eq (created events + 1) u ≡ b → (if b then record state { told = Began f g } else state).told ≡ began setting (events ++ e ∷ []) u
  told_new f g kind true same = sym (began_new events e setting u (ap (λ (k : EventKind). is_create k) kind) (eqb-true (created events + 1) u same) ∙ ap (λ (k : EventKind). told_by k) kind)
  told_new f g kind false differ = is ∙ sym (began_elsewhere events e setting u (ap (λ (k : EventKind). is_create k) kind) (eqb-false (created events + 1) u differ))

  ended_told : (b : Bool) (v : ℤ) → (if b then record state { ended = Some v } else state).told ≡ state.told
  ended_told true v = refl
  ended_told false v = refl

  joined_told : (b : Bool) → (if b then record state { joined = true } else state).told ≡ state.told
  joined_told true = refl
  joined_told false = refl

  other : is_create e.kind ≡ false → state.told ≡ began setting (events ++ e ∷ []) u
  other none = is ∙ sym (began_other events e setting u none)

  thread_told : (a : ℕ) (kind : EventKind) → e.kind ≡ kind → (thread_next (created events) a kind u state).told ≡ began setting (events ++ e ∷ []) u
  thread_told a (Create f g) same = told_new f g same (nat_eq (created events + 1) u) refl
  thread_told a (End v) same = ended_told (nat_eq a u) v ∙ other (ap (λ (k : EventKind). is_create k) same)
  thread_told a (Join t) same = joined_told (nat_eq t u) ∙ other (ap (λ (k : EventKind). is_create k) same)
  thread_told a _ same = other (ap (λ (k : EventKind). is_create k) same)

thread_after : (setting : Setting) (events : List Event) (e : Event) (u : ℕ) (state : ThreadState) → IsThreadAfter setting events u state → IsThreadAfter setting (events ++ e ∷ []) u (thread_next (created events) e.thread e.kind u state)
thread_after setting events e u state is = record {
  told = thread_told setting events e u state is.told e.thread e.kind refl;
  ended = thread_ended e.thread u state (has_ended events u) (end_value events u) is.ended (created events) e.kind
      ∙ (ap (λ (b : Bool). if b then Some (unwrap_or (if nat_eq e.thread u then ended_with e.kind else None) (end_value events u)) else None) (sym (ended_more events e u))
      ∙ ap (λ (v : ℤ). if has_ended (events ++ e ∷ []) u then Some v else None) (sym (end_value_more events e u)));
  joined = thread_joined e.thread u state (is_joined events u) is.joined (created events) e.kind ∙ sym (joined_more events e u);
}

-- the states of a mutex

init_now : (b : Bool) (state : MutexState) → (if b then record state { initialised = true } else state).initialised ≡ (state.initialised || b)
init_now true state = elim state.initialised as (λ (w : Bool). true ≡ (w || true)) [ true ↦ refl | false ↦ refl ]
init_now false state = sym (or-false state.initialised)

held_only : (b : Bool) (state : MutexState) (h : Option ℕ) → (if b then record state { holder = h } else state).initialised ≡ (state.initialised || false)
held_only true state h = sym (or-false state.initialised)
held_only false state h = sym (or-false state.initialised)

mutex_initialised : (a m : ℕ) (kind : EventKind) (state : MutexState) → (mutex_next a kind m state).initialised ≡ (state.initialised || option_is (initialised_mutex kind) m)
mutex_initialised a m (MutexInit mutex) state = init_now (nat_eq mutex m) state
mutex_initialised a m (Lock mutex) state = held_only (nat_eq mutex m) state (taken state.holder a)
mutex_initialised a m (TryLock mutex) state = held_only (nat_eq mutex m) state (taken state.holder a)
mutex_initialised a m (Unlock mutex) state = held_only (nat_eq mutex m) state (freed state.holder a)
mutex_initialised a m _ state = sym (or-false state.initialised)

init_held : (b : Bool) (state : MutexState) → (if b then record state { initialised = true } else state).holder ≡ state.holder
init_held true state = refl
init_held false state = refl

held_if : (b : Bool) (state : MutexState) (h : Option ℕ) → (if b then record state { holder = h } else state).holder ≡ (if b then h else state.holder)
held_if true state h = refl
held_if false state h = refl

-- who holds it next, by what the event asks for and gives back
abbrev holder_by : Option ℕ → ℕ → ℕ → Bool → Bool → Option ℕ
holder_by None m a locks unlocks = if locks then Some a else None
holder_by (Some u) m a locks unlocks = if unlocks then (if nat_eq a u then None else Some u) else Some u

by_event : (held : Option ℕ) (m : ℕ) (e : Event) → holder_next held m e ≡ holder_by held m e.thread (option_is (locked_mutex e.kind) m) (option_is (unlocked_mutex e.kind) m)
by_event None m e = refl
by_event (Some u) m e = refl

takes : (held : Option ℕ) (m a : ℕ) (b : Bool) → (if b then taken held a else held) ≡ holder_by held m a b false
takes None m a true = refl
takes None m a false = refl
takes (Some u) m a true = refl
takes (Some u) m a false = refl

frees : (held : Option ℕ) (m a : ℕ) (b : Bool) → (if b then freed held a else held) ≡ holder_by held m a false b
frees None m a true = refl
frees None m a false = refl
frees (Some u) m a true = refl
frees (Some u) m a false = refl

keeps : (held : Option ℕ) (m a : ℕ) → held ≡ holder_by held m a false false
keeps None m a = refl
keeps (Some u) m a = refl

mutex_holder : (a m : ℕ) (kind : EventKind) (state : MutexState) → (mutex_next a kind m state).holder ≡ holder_by state.holder m a (option_is (locked_mutex kind) m) (option_is (unlocked_mutex kind) m)
mutex_holder a m (MutexInit mutex) state = init_held (nat_eq mutex m) state ∙ keeps state.holder m a
mutex_holder a m (Lock mutex) state = held_if (nat_eq mutex m) state (taken state.holder a) ∙ takes state.holder m a (nat_eq mutex m)
mutex_holder a m (TryLock mutex) state = held_if (nat_eq mutex m) state (taken state.holder a) ∙ takes state.holder m a (nat_eq mutex m)
mutex_holder a m (Unlock mutex) state = held_if (nat_eq mutex m) state (freed state.holder a) ∙ frees state.holder m a (nat_eq mutex m)
mutex_holder a m _ state = keeps state.holder m a

mutex_after : (events : List Event) (e : Event) (m : ℕ) (state : MutexState) → IsMutexAfter events m state → IsMutexAfter (events ++ e ∷ []) m (mutex_next e.thread e.kind m state)
mutex_after events e m state is = record {
  initialised = mutex_initialised e.thread m e.kind state ∙ (ap (λ (b : Bool). b || option_is (initialised_mutex e.kind) m) is.initialised ∙ sym (initialised_more events e m));
  holder = mutex_holder e.thread m e.kind state ∙ (sym (by_event state.holder m e) ∙ (ap (λ (h : Option ℕ). holder_next h m e) is.holder ∙ sym (holder_more None m events e)));
}

-- the values of a plain cell

value_if : (b : Bool) (value old : TypedNumber) → (if b then value else old) ≡ unwrap_or (if b then Some value else None) old
value_if true value old = refl
value_if false value old = refl

value_after : (kind : EventKind) (cell : ℕ) (old : TypedNumber) → value_next kind cell old ≡ unwrap_or (written_to cell kind) old
value_after (PlainWrite written value) cell old = value_if (nat_eq written cell) value old
value_after _ cell old = refl

module _ (setting : Setting) (events : List Event) (e : Event) (old new : Words) (is : StandsFor old setting events) where
  pub stands_next : new.created ≡ old.created + cond (is_create e.kind) 1 0 → AreChanged (thread_next old.created e.thread e.kind) old.threads new.threads → AreChanged (mutex_next e.thread e.kind) old.mutexes new.mutexes
      → AreChanged (value_next e.kind) old.values new.values → StandsFor new setting (events ++ e ∷ [])
  stands_next count threads mutexes values = record {
    created = count ∙ (ap (λ (n : ℕ). n + cond (is_create e.kind) 1 0) is.created ∙ sym (created_more events e));
    threads = λ u state at.
        let was = before (thread_next old.created e.thread e.kind) old.threads new.threads u state threads at in
        let now : thread_next (created events) e.thread e.kind u was.0 ≡ state = ap (λ (n : ℕ). thread_next n e.thread e.kind u was.0) (sym is.created) ∙ sym was.2 in
        subst (λ (s : ThreadState). IsThreadAfter setting (events ++ e ∷ []) u s) now (thread_after setting events e u was.0 (is.threads u was.0 was.1));
    mutexes = λ m state at.
        let was = before (mutex_next e.thread e.kind) old.mutexes new.mutexes m state mutexes at in
        subst (λ (s : MutexState). IsMutexAfter (events ++ e ∷ []) m s) (sym was.2) (mutex_after events e m was.0 (is.mutexes m was.0 was.1));
    values = λ cell value at.
        let was = before (value_next e.kind) old.values new.values cell value values at in
        was.2 ∙ (value_after e.kind cell was.0 ∙ (ap (λ (v : TypedNumber). unwrap_or (written_to cell e.kind) v) (is.values cell was.0 was.1) ∙ sym (plain_value_more events e cell (initial_of setting.plain cell))));
  }
