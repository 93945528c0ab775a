-- In a legal history each step is of a live thread, and each Lock that took its mutex found it free.
use Rattle.std.proofs.Common.{◌≡◌, ℕ, zero, suc, ◌+◌, ◌<◌, ◌≤◌, Bool, true, false, ◌&&◌, ◌||◌, List, [], ◌∷◌, ◌++◌, Option, Some, None, length, map, nat_eq, slice_get, take, refl, sym, ap, ◌∙◌, subst, arith, inl, inr}
use Rattle.std.specs.Prelude.{if◌then◌else◌}
use Rattle.std.proofs.Math.Seq.{take-length}
use Rattle.std.proofs.lemmas.List.{map-append, take-append-le}
use native.Mathlib.Decide.{dec_lt}
use mathlib.Core.Logic.{dite}
use Rattle.c11_events.specs.declared.cells.CellInfo.{CellInfo}
use Rattle.c11_events.specs.declared.entry.Entry.{Entry}
use Rattle.c11_events.specs.declared.event.Event.{Event}
use Rattle.c11_events.specs.declared.op.Op.{Op}
use Rattle.c11_events.specs.declared.op.Op.TheVariants.{Lock}
use Rattle.c11_events.specs.declared.reply.FaultKind.TheVariants as fault
use Rattle.c11_events.specs.declared.reply.Holder.{Holder}
use Rattle.c11_events.specs.declared.reply.Holder.TheVariants as waits
use Rattle.c11_events.specs.declared.reply.Reply.{Reply}
use Rattle.c11_events.specs.declared.reply.Reply.TheVariants.{Done, Locked, Fault}
use Rattle.c11_events.specs.Dead.{AreOfLive, IsLiveAt}
use Rattle.c11_events.specs.EventOf.{event_of, events_of}
use Rattle.c11_events.specs.Events.{At}
use Rattle.c11_events.specs.Replies.{answer}
use Rattle.c11_events.specs.Steps.{Offering, init_from, init_entries}
use Rattle.c11_events.specs.Threads.{IsLive, blocked_by, has_ended, held_by, holder}
use Rattle.c11_machine.specs.Runs.{Program, Legal, start, more}
use Rattle.c11_run.proofs.LegalRuns.{init_entry}
use Rattle.c11_run.proofs.Lists.{no_later, old_or_end}
use Rattle.c11_run.specs.Laws.{LegalIsOfLive, LocksFindFree, LegalLocksFindFree}

-- the front of a list, up to one that it has, is not changed by one element more
front_same : {X : Type 0} (xs : List X) (x y : X) (i : ℕ) → slice_get xs i ≡ Some y → take i (xs ++ x ∷ []) ≡ take i xs
front_same xs x y i at = dite (dec_lt i (length xs)) (λ (lt : i < length xs). take-append-le i xs (x ∷ []) (omega arith))
    (λ (ge : i < length xs → ⊥). absurd (no_later xs i y (omega (arith, ge)) at))

front_whole : {X : Type 0} (xs : List X) (x : X) (i : ℕ) → i ≡ length xs → take i (xs ++ x ∷ []) ≡ xs
front_whole xs x i is = take-append-le i xs (x ∷ []) (omega arith) ∙ (ap (λ (n : ℕ). take n xs) is ∙ take-length xs)

-- ---- live threads

no_end : (b : Bool) → (b && false) ≡ false
no_end true = refl
no_end false = refl

inits_going : (n k u : ℕ) (cells : List CellInfo) → has_ended (take n (events_of (init_from k cells))) u ≡ false
inits_going zero k u cells = refl
inits_going (suc n) k u [] = refl
inits_going (suc n) k u (info ∷ cells) =
    let rest = inits_going n (suc k) u cells in
    ap (λ (b : Bool). b || has_ended (take n (events_of (init_from (suc k) cells))) u) (no_end (nat_eq 0 u)) ∙ rest

inits_of_main : (k n : ℕ) (cells : List CellInfo) (e : Event) → slice_get (events_of (init_from k cells)) n ≡ Some e → e.thread ≡ 0
inits_of_main k n [] e at = cc
inits_of_main k zero (info ∷ cells) e at = let same : event_of (init_entry k info) ≡ e = cc in ap (λ (f : Event). f.thread) (sym same)
inits_of_main k (suc n) (info ∷ cells) e at = inits_of_main (suc k) n cells e at

inits_live : (cells : List CellInfo) → AreOfLive (events_of (init_entries cells))
inits_live cells n u t =
    let main : u ≡ 0 = sym t.holds ∙ inits_of_main 0 n cells t.event t.is in
    record { started = omega arith; going = inits_going n 0 u cells }

live_more : (events : List Event) (f : Event) → AreOfLive events → IsLive events f.thread → AreOfLive (events ++ f ∷ [])
live_more events f before live n u t = elim (old_or_end events f n t.event t.is) [
  | inl old ↦ subst (λ (es : List Event). IsLive es u) (sym (front_same events f t.event n old)) (before n u (record { event = t.event; is = old; holds = t.holds }))
  | inr end ↦ subst (λ (es : List Event). IsLive es u) (sym (front_whole events f n end.0)) (subst (IsLive events) (ap (λ (e : Event). e.thread) end.1 ∙ t.holds) live)
]

pub legal_live : (Offers : Offering) → LegalIsOfLive Offers
legal_live Offers program bound _ start = inits_live program.setting.atomic
legal_live Offers program bound _ (more entries e before legal) =
    subst AreOfLive (sym (map-append event_of entries (e ∷ []))) (live_more (events_of entries) (event_of e) (legal_live Offers program bound entries before) legal.live)

-- ---- mutexes

inits_done : (n : ℕ) (cells : List CellInfo) (i : ℕ) (e : Entry) → slice_get (init_from n cells) i ≡ Some e → e.reply ≡ Done
inits_done n [] i e at = cc
inits_done n (info ∷ cells) zero e at = let same : init_entry n info ≡ e = cc in ap (λ (f : Entry). f.reply) (sym same)
inits_done n (info ∷ cells) (suc i) e at = inits_done (suc n) cells i e at

-- a Lock that is not blocked and takes its mutex finds it free
found_free : (mutex : ℕ) (initialised : Bool) (held : Option ℕ) → (if initialised then held_by mutex held else None) ≡ None
    → (if initialised then Locked true else Fault fault.Mutex) ≡ Locked true → held ≡ None
found_free mutex true None free told = refl
found_free mutex true (Some owner) free told = let clash : Some (waits.Mutex mutex owner) ≡ None = free in cc
found_free mutex false held free told = let clash : Fault fault.Mutex ≡ Locked true = told in cc

pub legal_locks : (Offers : Offering) → LegalLocksFindFree Offers
legal_locks Offers program bound _ start i mutex e at op told = let clash : Done ≡ Locked true = sym (inits_done 0 program.setting.atomic i e at) ∙ told in cc
legal_locks Offers program bound _ (more entries e before legal) i mutex f at op told = elim (old_or_end entries e i f at) [
  | inl old ↦
      subst (λ (es : List Entry). holder (events_of es) mutex ≡ None) (sym (front_same entries e f i old)) (legal_locks Offers program bound entries before i mutex f old op told)
  | inr end ↦
      let asks : legal.ask.op ≡ Lock mutex = sym legal.step.op ∙ (ap (λ (g : Entry). g.op) end.1 ∙ op) in
      let free = subst (λ (o : Op). blocked_by (events_of entries) e.thread o ≡ None) asks legal.free in
      let takes = ap (λ (o : Op). answer program.setting (events_of entries) e.thread o e.from) (sym asks) ∙ (sym legal.step.reply ∙ (ap (λ (g : Entry). g.reply) end.1 ∙ told)) in
      subst (λ (es : List Entry). holder (events_of es) mutex ≡ None) (sym (front_whole entries e i end.0)) (found_free mutex _ _ free takes)
]
