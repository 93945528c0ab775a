-- Histories are consistent.
use Rattle.std.proofs.Common.{◌≡◌, ℕ, zero, suc, ◌+◌, ◌<◌, Bool, true, false, cond, List, [], ◌∷◌, ◌++◌, Option, Some, None, length, slice_get, refl, sym, ap, ◌∙◌, subst, arith, append_assoc, append-nil, MatchOption}
use Rattle.std.specs.Prelude.{Contains, slice_index_or}
use Rattle.c11_events.specs.Closure.{one, join}
use Rattle.std.specs.Ordering.{int_eq}
use Rattle.c11_num.specs.Ranges.{TypedNumber}
use Rattle.c11_num.specs.declared.kind.RmwKind.TheVariants.{Exchange}
use Rattle.c11_events.specs.declared.cells.CellInfo.{CellInfo}
use Rattle.c11_events.specs.declared.op.Op.{Op}
use Rattle.c11_events.specs.declared.op.Op.TheVariants as op
use Rattle.c11_events.specs.declared.op.Ask.{Ask}
use Rattle.c11_events.specs.declared.order.Order.{Order}
use Rattle.c11_events.specs.declared.reply.Reply.{Reply}
use Rattle.c11_events.specs.declared.reply.Reply.TheVariants.{Done, Exchanged}
use Rattle.c11_events.specs.declared.entry.Entry.{Entry}
use Rattle.c11_events.specs.declared.event.EventKind.{EventKind}
use Rattle.c11_events.specs.declared.event.EventKind.TheVariants.{AtomicLoad, Rmw}
use Rattle.c11_events.specs.declared.event.Event.{Event}
use Rattle.c11_events.specs.EventOf.{event_of, events_of, kind_of}
use Rattle.c11_events.specs.Events.{event_at, loaded_cell}
use Rattle.c11_events.specs.Values.{value_of}
use Rattle.c11_events.specs.Lawful.{Consistent}
use Rattle.c11_events.specs.Chains.{Links, ChainLawful}
use Rattle.c11_events.specs.Offered.{Offered, op_cell, op_reading}
use Rattle.c11_events.specs.Replies.{Setting, answer}
use Rattle.c11_events.specs.Steps.{IsStep, init_from, init_entries}
use Rattle.c11_events.specs.Laws.{InitsAreConsistent, StepStaysConsistent}
use Rattle.c11_events.proofs.Necessary.{chain_lawful}
use Rattle.c11_events.proofs.Sufficient.{consistent}
use Rattle.c11_events.proofs.Others.{others_fit}

pub length-events_of : (entries : List Entry) → length (events_of entries) ≡ length entries
length-events_of [] = refl
length-events_of (e ∷ es) = ap suc (length-events_of es)

pub events_of-append : (entries more : List Entry) → events_of (entries ++ more) ≡ events_of entries ++ events_of more
events_of-append [] more = refl
events_of-append (e ∷ es) more = ap (λ (l : List Event). event_of e ∷ l) (events_of-append es more)

-- what is no read of an atomic cell is no load
no_load : (o : Op) (r : Reply) → op_cell o ≡ None → loaded_cell (kind_of o r) ≡ None
no_load (op.AtomicLoad cell order) r is = cc
no_load (op.Rmw cell order kind operand) r is = cc
no_load (op.CompareExchange cell success failure weak expected desired) r is = cc
no_load _ r is = refl

-- an operation that reads x and gets its reply is what it becomes by reading x
exchange_reading : (cell : ℕ) (success failure : Order) (desired old : TypedNumber) (b : Bool)
    → kind_of (op.CompareExchange cell success failure true old desired) (Exchanged old b) ≡ cond b (Rmw cell success Exchange desired) (AtomicLoad cell failure)
exchange_reading cell success failure desired old true = refl
exchange_reading cell success failure desired old false = refl

is_reading : (setting : Setting) (events : List Event) (thread : ℕ) (o : Op) (cell x : ℕ) → op_cell o ≡ Some cell → kind_of o (answer setting events thread o x) ≡ op_reading events o x
is_reading setting events thread (op.AtomicLoad cell order) c x is = refl
is_reading setting events thread (op.Rmw cell order kind operand) c x is = refl
is_reading setting events thread (op.CompareExchange cell success failure weak expected desired) c x is =
    exchange_reading cell success failure desired (value_of events x) (int_eq (value_of events x).number expected.number)
is_reading setting events thread _ c x is = cc

pub contained : (xs : List ℕ) (x : ℕ) → Contains xs x → (k : ℕ) × (slice_get xs k ≡ Some x)
contained xs x c = (c.0, at xs c.0 x c.1 c.2)
  where
    at : (xs : List ℕ) (k x : ℕ) → k < length xs → slice_index_or xs k x ≡ x → slice_get xs k ≡ Some x
    at [] k x lt is = absurd (omega arith)
    at (y ∷ xs) zero x lt is = ap (λ (z : ℕ). Some z) is
    at (y ∷ xs) (suc k) x lt is = at xs k x (omega arith) is

module _ (setting : Setting) (entries : List Entry) (thread : ℕ) (ask : Ask) (e : Entry) (c : Consistent (events_of entries)) (s : IsStep Offered setting entries thread ask e) where
  -- the event of the entry, in the words of the step
  event_is : (kind : EventKind) → kind_of ask.op (answer setting (events_of entries) thread ask.op e.from) ≡ kind
      → event_of e ≡ record { number = length (events_of entries) + 1; thread = thread; kind = kind; from = e.from }
  event_is kind is =
      let number : e.number ≡ length (events_of entries) + 1 = s.number ∙ ap (λ (n : ℕ). n + 1) (sym (length-events_of entries)) in
      let same : kind_of e.op e.reply ≡ kind = ap (λ (p : Op × Reply). kind_of p.0 p.1) (λ i. (s.op i, s.reply i)) ∙ is in
      λ i. record { number = number i; thread = s.of_thread i; kind = same i; from = e.from }

  joined : events_of (entries ++ e ∷ []) ≡ events_of entries ++ event_of e ∷ []
  joined = events_of-append entries (e ∷ [])

  by_cell : (o : Option ℕ) → op_cell ask.op ≡ o → Consistent (events_of entries ++ event_of e ∷ [])
  by_cell None is =
      let quiet : loaded_cell (event_of e).kind ≡ None = no_load e.op e.reply (ap op_cell s.op ∙ is) in
      consistent (events_of entries ++ event_of e ∷ []) (others_fit (events_of entries) (event_of e) (chain_lawful (events_of entries) c) quiet)
  by_cell (Some cell) is =
      let r = subst (λ (m : Option ℕ). MatchOption m ((e.offered ≡ []) × (e.from ≡ 0)) (λ cell. Offered (events_of entries) thread (op_reading (events_of entries) ask.op) cell e.offered × Contains e.offered e.from)) is s.reads in
      let k = contained e.offered e.from r.1 in
      let o = r.0.only k.0 e.from k.1 in
      subst (λ (f : Event). Consistent (events_of entries ++ f ∷ [])) (sym (event_is _ (is_reading setting (events_of entries) thread ask.op cell e.from is))) o.consistent

pub step_consistent : StepStaysConsistent
step_consistent setting entries thread ask e c s = subst (λ (es : List Event). Consistent es) (sym (joined setting entries thread ask e c s)) (by_cell setting entries thread ask e c s (op_cell ask.op) refl)

-- events that are no loads
abbrev Quiet : List Event → Type 0
Quiet events = (i : ℕ) (e : Event) → slice_get events i ≡ Some e → loaded_cell e.kind ≡ None

quiet_lawful : (more events : List Event) → ChainLawful events → Quiet more → ChainLawful (events ++ more)
quiet_lawful [] events c quiet = subst ChainLawful (sym (append-nil events)) c
quiet_lawful (e ∷ more) events c quiet =
    subst ChainLawful (append_assoc events (e ∷ []) more) (quiet_lawful more (events ++ e ∷ []) (others_fit events e c (quiet 0 e refl)) (λ i f at. quiet (suc i) f at))

inits_quiet : (n : ℕ) (cells : List CellInfo) → Quiet (events_of (init_from n cells))
inits_quiet n [] i e at = cc
inits_quiet n (info ∷ cells) zero e at = let same : event_of (record { number = n + 1; thread = 0; line = 0; op = op.Init n info.initial; reply = Done; from = 0; offered = [] }) ≡ e = cc in ap (λ (f : Event). loaded_cell f.kind) (sym same)
inits_quiet n (info ∷ cells) (suc i) e at = inits_quiet (suc n) cells i e at

-- without events nothing is unlawful
nothing_lawful : ChainLawful []
nothing_lawful = record {
  reads = λ cell l x load. absurd (no_event l load.event load.is);
  acyclic = λ cell h links. no_link cell h h links;
  ranked = λ cell a b head i j must. absurd (no_event a must.first.event must.first.is);
  once = λ cell b c x rmw. absurd (no_event b rmw.event rmw.is);
  seq_cst_read = λ cell l x a load. absurd (no_event l load.event load.is);
}
  where
    no_event : (a : ℕ) (e : Event) → event_at [] a ≡ Some e → ⊥
    no_event zero e is = cc
    no_event (suc a) e is = cc

    no_link : (cell h k : ℕ) → Links [] cell h k → ⊥
    no_link cell h k (one l) = no_event l.a l.must.first.event l.must.first.is
    no_link cell h k (join {b = m} v w) = no_link cell h m v

pub inits_consistent : InitsAreConsistent
inits_consistent cells = consistent (events_of (init_entries cells)) (quiet_lawful (events_of (init_entries cells)) [] nothing_lawful (inits_quiet 0 cells))
