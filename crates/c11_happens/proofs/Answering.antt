-- What the tables answer, and that an event may be noted.
use Rattle.std.proofs.Common.{◌≡◌, ℕ, zero, suc, ◌+◌, ◌-◌, ◌<◌, ◌≤◌, true, List, [], ◌∷◌, ◌++◌, Some, length, take, cond, slice_get, slice_index, slice_index_or, add-one, refl, sym, ap, ◌∙◌, subst, arith, inl, inr}
use Rattle.std.proofs.lemmas.List.Sums.{count_by-le-length, count_by_more_yes, sum_by-take-le}
use Rattle.std.proofs.lemmas.List.{take-take}
use Rattle.std.proofs.lemmas.Option.{get_or_from_slice_get, slice_get-get_or}
use native.Mathlib.Decide.{ℕ_discrete, dec_lt}
use mathlib.Core.Logic.{dite, ◌↔◌}
use Rattle.c11_events.specs.declared.event.Event.{Event}
use Rattle.c11_events.specs.declared.event.EventKind.{EventKind}
use Rattle.c11_events.specs.declared.event.EventKind.TheVariants.{Out}
use Rattle.c11_events.specs.Closure.{one}
use Rattle.c11_events.specs.Events.{event_at, IsStore, ReadsEarlier, stored_cell, loaded_cell, is_create}
use Rattle.c11_events.specs.HappensBefore.{HappensBefore}
use Rattle.c11_events.specs.Threads.{created}
use Rattle.c11_events.proofs.DecideEvents.{at_below}
use Rattle.c11_events.proofs.Longer.{old_or_new}
use Rattle.c11_events.proofs.Prefix.{load_less, store_more}
use Rattle.c11_events.proofs.Rises.{hb_rises}
use Rattle.c11_happens.specs.Covers.{UpTo, CoversExactly, IsOf, HasNoEvent, IsLastOf, IsCreateOf}
use Rattle.c11_happens.specs.Marks.{Knows, own, start}
use Rattle.c11_happens.specs.Noting.{row, Contents, IsReady}
use Rattle.c11_happens.specs.Kept.{IsKept}
use Rattle.c11_happens.specs.Trace.{Trace, textless, textless_kind}
use Rattle.c11_happens.proofs.Clocks.{up_to_up_to}
use Rattle.c11_happens.proofs.Keeping.{some_of}
use Rattle.c11_happens.proofs.Marking.{acquire_loads}
use Rattle.c11_happens.proofs.Taking.{from_earlier, last_within}

pub loaded_same : (kind : EventKind) → loaded_cell (textless_kind kind) ≡ loaded_cell kind
loaded_same (Out bytes) = refl
loaded_same _ = refl

-- the list with the event reads earlier stores, where the event does
pub reads_next : (events : List Event) (e : Event) → ReadsEarlier events → ((cell : ℕ) → loaded_cell e.kind ≡ Some cell → IsStore events cell e.from) → ReadsEarlier (events ++ e ∷ [])
reads_next events e reads here cell l x load = elim (old_or_new events e l (λ f. (loaded_cell f.kind ≡ Some cell) × (f.from ≡ x)) load) [
  | inl le ↦ let old = reads cell l x (load_less events (e ∷ []) cell l x le load) in (store_more events (e ∷ []) cell x old.0, old.1)
  | inr new ↦
      let is = subst (λ (z : ℕ). IsStore events cell z) new.1.1 (here cell new.1.0) in
      let lt = at_below events x (λ f. stored_cell f.kind ≡ Some cell) is in
      (store_more events (e ∷ []) cell x is, omega (arith, new.0))
]

-- where a number of an event stands, there is one
pub event_of : (events : List Event) (place : ℕ) → place < length events → (e : Event) × (slice_get events place ≡ Some e)
event_of [] place lt = absurd (omega arith)
event_of (e ∷ events) zero lt = (e, refl)
event_of (e ∷ events) (suc place) lt = event_of events place (omega arith)

-- each Create makes another thread
created_least : (events : List Event) (q p : ℕ) → q ≤ p → created (take q events) ≤ created (take p events)
created_least events q p le = rw (← take-take q p events le) (sum_by-take-le (λ (f : Event). cond (is_create f.kind) 1 0) (take p events) q)

create_grows : (events : List Event) (thread m c : ℕ) → IsCreateOf events thread m → IsCreateOf events thread c → m < c → ⊥
create_grows events thread m zero is create lt = absurd (omega arith)
create_grows events thread m (suc place) is create lt =
    let e = create.is.event in
    let inside : place < length events = let le = at_below events (suc place) (λ f. is_create f.kind ≡ true) create.is in omega arith in
    let here : is_create (slice_index_or events place e).kind ≡ true = ap (λ (f : Event). is_create f.kind) (get_or_from_slice_get events place e e create.is.is) ∙ create.is.holds in
    let more : created (take (suc place) events) ≡ created (take place events) + 1 = ap (λ (n : ℕ). created (take n events)) (sym (add-one place)) ∙ count_by_more_yes (λ (f : Event). is_create f.kind) events place e inside here in
    omega (arith, more, created_least events m place (omega arith), is.creates, create.creates)

one_create : (events : List Event) (thread m c : ℕ) → IsCreateOf events thread m → IsCreateOf events thread c → m ≡ c
one_create events thread m c is create = dite (ℕ_discrete m c) (λ (same : m ≡ c). same)
    (λ (other : m ≡ c → ⊥). dite (dec_lt m c) (λ (lt : m < c). absurd (create_grows events thread m c is create lt)) (λ (le : m < c → ⊥). absurd (create_grows events thread c m create is (omega arith))))

module _ (threads room : ℕ) (events : List Event) (t : Contents) (kept : IsKept threads room events t) where
  pub ready : (e : Event) → ReadsEarlier (events ++ e ∷ []) → length events < room → e.thread < threads → e.number ≡ suc (length events) → IsReady t e
  ready e reads space thread numbered = record {
    number = omega (arith, kept.sized.clocks);
    number_passed = omega (arith, kept.sized.passed);
    thread = omega (arith, kept.sized.known);
    fenced = kept.sized.fenced ∙ sym kept.sized.known;
    read = kept.sized.read ∙ sym kept.sized.known;
    ended = kept.sized.ended ∙ sym kept.sized.known;
    from = λ is. let loads = some_of (loaded_cell e.kind) is in let le = from_earlier threads room events e t kept reads space thread numbered loads.0 loads.1 in omega arith;
    acquired = λ is. let loads = acquire_loads e.kind is in let le = from_earlier threads room events e t kept reads space thread numbered loads.0 loads.1 in omega (arith, kept.sized.passed);
    unlocks = λ mutex. let le = last_within threads room events e t kept reads space thread numbered mutex in omega arith;
    unlocked = λ mutex. let le = last_within threads room events e t kept reads space thread numbered mutex in omega (arith, kept.sized.passed);
    wide_clocks = wide t.clocks kept.sized.wide_clocks;
    wide_passed = wide t.passed kept.sized.wide_passed;
    wide_known = wide t.known kept.sized.wide_known;
    wide_fenced = wide t.fenced kept.sized.wide_fenced;
    wide_read = wide t.read kept.sized.wide_read;
    wide_ended = wide t.ended kept.sized.wide_ended;
  }
    where
      wide : (table : List (List ℕ)) → ((i : ℕ) → i < length table → length (row table i) ≡ threads) → (i : ℕ) → i < length table → length (row table i) ≡ length t.known
      wide table w i lt = w i lt ∙ sym kept.sized.known

  pub few_created : t.created ≤ length events
  few_created = omega (arith, kept.count, count_by-le-length (λ (f : Event). is_create f.kind) events)

  -- an event's clock covers another event exactly where that happens before it
  pub before_is : (a b : ℕ) (f g : Event) → event_at events a ≡ Some f → event_at events b ≡ Some g → (a ≡ b → ⊥) → (a ≤ slice_index (row t.clocks b) f.thread) ↔ HappensBefore events a b
  before_is a b f g at_a at_b differ =
      let exact = (kept.clocks b g at_b).exact a f at_a in (
        λ le. let x = exact.0 le in of_up_to x.0 x.1.0 x.1.1,
        λ h. exact.1 (b, (refl, inr h)),
      )
    where
      of_up_to : (m : ℕ) → m ≡ b → UpTo events m a → HappensBefore events a b
      of_up_to m same (inl same') = absurd (differ (same' ∙ same))
      of_up_to m same (inr h) = subst (λ (z : ℕ). HappensBefore events a z) same h

  pub never_itself : (a b : ℕ) → a ≡ b → HappensBefore events a b → ⊥
  never_itself a b same h = let lt = hb_rises events a b kept.reads h in omega arith

  -- the clock of a thread

  module _ (thread : ℕ) (lt : thread < threads) where
    pub last_clock : (b : ℕ) → IsLastOf events thread b → CoversExactly events (row t.known thread) (UpTo events b)
    last_clock b last a e at =
        let exact = (kept.known thread lt).exact a e at in
        (λ le. let x = exact.0 le in to x.0 x.1.0 x.1.1, λ u. exact.1 (b, (own last.is, u)))
      where
        program : (m : ℕ) → IsOf events thread m → m < b → HappensBefore events m b
        program m is less = one (inl (record {
          thread = record { event = is.event; is = is.is; holds = record { event = last.is.event; is = last.is.is; holds = is.holds ∙ sym last.is.holds } };
          earlier = less;
        }))

        by_own : (m : ℕ) → IsOf events thread m → UpTo events m a → UpTo events b a
        by_own m is u = dite (ℕ_discrete m b) (λ (same : m ≡ b). subst (λ (z : ℕ). UpTo events z a) same u)
            (λ (other : m ≡ b → ⊥). up_to_up_to events a m b u (inr (program m is (let le = last.last m is in omega arith))))

        to : (m : ℕ) → Knows events thread m → UpTo events m a → UpTo events b a
        to m (own is) u = by_own m is u
        to m (start none is) u = absurd (none b last.is)

    pub started_clock : (c : ℕ) → HasNoEvent events thread → IsCreateOf events thread c → CoversExactly events (row t.known thread) (UpTo events c)
    started_clock c none create a e at =
        let exact = (kept.known thread lt).exact a e at in
        (λ le. let x = exact.0 le in to x.0 x.1.0 x.1.1, λ u. exact.1 (c, (start none create, u)))
      where
        to : (m : ℕ) → Knows events thread m → UpTo events m a → UpTo events c a
        to m (own is) u = absurd (none m is)
        to m (start none' is) u = subst (λ (z : ℕ). UpTo events z a) (one_create events thread m c is create) u

    pub unborn_clock : HasNoEvent events thread → ((c : ℕ) → IsCreateOf events thread c → ⊥) → CoversExactly events (row t.known thread) (λ a. ⊥)
    unborn_clock none none' a e at = let exact = (kept.known thread lt).exact a e at in (λ le. let x = exact.0 le in to x.0 x.1.0, λ x. absurd x)
      where
        to : (m : ℕ) → Knows events thread m → ⊥
        to m (own is) = none m is
        to m (start _ is) = none' m is

-- the event at an index is the one with the next number
pub at_index : (events : List Event) (a : ℕ) (d : Event) → 0 < a → a ≤ length events → event_at events a ≡ Some (slice_index_or events (a - 1) d)
at_index events zero d some le = absurd (omega arith)
at_index events (suc place) d some le = let e : suc place - 1 ≡ place = omega arith in rw e (slice_get-get_or events place d (omega arith))

-- the event is the next one
pub record IsNext (threads room : ℕ) (events : List Event) (e : Event) : Type 0 where
  pub numbered : e.number ≡ suc (length events)
  pub space : length events < room
  pub thread : e.thread < threads
  pub reads : ReadsEarlier (events ++ e ∷ [])

pub next_event : (threads room : ℕ) (events : List Event) (now : Trace) (e f : Event) → record { threads = threads; room = room; events = events } ≡ now → f ≡ textless e → ReadsEarlier events → e.number ≡ length now.events + 1 → length now.events < now.room
    → e.thread < now.threads → ((cell : ℕ) → loaded_cell e.kind ≡ Some cell → IsStore now.events cell e.from) → IsNext threads room events f
next_event threads room events now e f view is before numbered space thread reads =
    let number = ap (λ (g : Event). g.number) is in
    let of_thread = ap (λ (g : Event). g.thread) is in
    let size = ap (λ (h : Trace). length h.events) view in
    let room_is = ap (λ (h : Trace). h.room) view in
    let threads_is = ap (λ (h : Trace). h.threads) view in
    record {
      numbered = omega arith;
      space = omega arith;
      thread = omega arith;
      reads = reads_next events f before (λ cell loads. subst (λ (z : ℕ). IsStore events cell z) (ap (λ (g : Event). g.from) (sym is))
          (subst (λ (h : Trace). IsStore h.events cell e.from) (sym view) (reads cell (sym (loaded_same e.kind) ∙ (ap (λ (g : Event). loaded_cell g.kind) (sym is) ∙ loads)))));
    }
