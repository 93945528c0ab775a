-- One step of the run.
use Rattle.std.proofs.Common.{◌≡◌, ℕ, ◌+◌, ◌<◌, ◌≤◌, Bool, true, false, List, [], ◌∷◌, ◌++◌, Option, Some, None, length, slice_get, slice_set, refl, sym, ap, ◌∙◌, subst, arith, inl, inr}
use Rattle.std.specs.Prelude.{ℤ, ⊤, MatchOption, ◌⊎◌, IsSome, IsTrue, is_some}
use Rattle.std.proofs.lemmas.Bool.Decides.{eqb_tells}
use Rattle.std.proofs.lemmas.Option.{get_or_from_slice_get, slice_get_cases}
use Rattle.std.proofs.lemmas.List.{length-set}
use lib.ListN.{get_or}
use Rattle.c11_check.specs.declared.checked.Checked.{Checked}
use Rattle.c11_check.specs.Lies.{FaultlessLiesWithin, signatures_in}
use Rattle.c11_events.specs.declared.entry.Entry.{Entry}
use Rattle.c11_events.specs.declared.event.Event.{Event}
use Rattle.c11_events.specs.declared.op.Ask.{Ask}
use Rattle.c11_events.specs.declared.op.Op.{Op}
use Rattle.c11_events.specs.declared.op.Op.TheVariants as op
use Rattle.c11_events.specs.declared.reply.Holder.{Holder}
use Rattle.c11_events.specs.declared.reply.Reply.{Reply}
use Rattle.c11_events.specs.declared.reply.Reply.TheVariants.{Created}
use Rattle.c11_events.specs.Draws.{after_words, chosen, words_for}
use Rattle.c11_events.specs.EventOf.{event_of, events_of, kind_of}
use Rattle.c11_events.specs.Events.{is_create, is_end}
use Rattle.c11_events.specs.Offered.{IsRisingList, Offered, op_cell}
use Rattle.c11_events.specs.Replies.{Setting, answer, thread_limit}
use Rattle.c11_events.specs.Steps.{IsStep, is_init, own_replies, step_count}
use Rattle.c11_events.specs.Threads.{IsLive, blocked_by, created, has_ended}
use Rattle.c11_events.specs.Verdicts.{IsEnabled, IsStuck, StepVerdict, goes_on, last_says, step_verdict}
use Rattle.c11_events.proofs.Histories.{events_of-append}
use Rattle.c11_machine.specs.Programs.{program_of}
use Rattle.c11_machine.specs.Runs.{Program as Runs_program, IsChosen, IsLegalStep, OnTheWay, goes, next_of}
use Rattle.c11_meaning.specs.Legal.{AsksAreLegal, IsOpOf}
use Rattle.c11_meaning.specs.Progress.{IsReplyTo}
use Rattle.c11_memory.specs.Execution.{Execution, HasDrawn}
use Rattle.c11_memory.specs.Steps.{AddsStep}
use Rattle.c11_run.specs.declared.team.Member.{Member}
use Rattle.c11_run.specs.Going.{AreWaiting, AreWithin, CanGo, CreatedAreFew, CreatesAreNamed, GoesOn, IsAt, IsTurn, IsWaiting, NamesFunction}
use Rattle.c11_run.proofs.Added.{bit, count_more, create_or_not, created_more, ended_here, ended_less, named_more, other_more, own_more, says_last, undecided_says}
use Rattle.c11_run.proofs.Fitting.{asks_within, began_named, create_room, created_few, fits, is_own, own_named, own_no_init}
use Rattle.c11_run.proofs.Lists.{old_or_end, set_at, set_same}

no_value : {X : Type 0} (o : Option X) → is_some o ≡ false → o ≡ None
no_value None is = refl
no_value (Some x) is = let clash : true ≡ false = is in cc

-- where no verdict is kept
module _ (law : AsksAreLegal) (checked : Checked) (m : Execution) (members : List Member) (at : IsAt checked m members) (none : m.verdict ≡ None) where
  abbrev P : Runs_program
  P = program_of checked

  abbrev h : List Entry
  h = m.history

  abbrev events : List Event
  events = events_of m.history

  abbrev waits : (u : ℕ) (member : Member) → slice_get members u ≡ Some member → IsLive events u → IsWaiting checked.program member (own_replies h u)
  waits u member get live = (at.waiting none).each u member get live.going

  -- each live thread is one of these
  member_of : (u : ℕ) → IsLive events u → (member : Member) × (slice_get members u ≡ Some member)
  member_of u live = elim (slice_get_cases members u).1 [
    | inl p ↦ (p.0, p.2)
    | inr p ↦ absurd (omega (arith, p.0, (at.waiting none).count, live.started, at.few none))
  ]

  pub all_within : AreWithin m members
  all_within u member get live = asks_within law checked m (own_replies h u) member.ask at.setting at.mutexes (at.told u) (waits u member get live).asks

  -- those that can go are the enabled ones
  goes_enabled : (u : ℕ) → GoesOn events members u → IsEnabled (next_of P h) h u
  goes_enabled u g = record { live = g.2.0; ask = g.0.ask; is_next = (waits u g.0 g.1 g.2.0).asks; free = g.2.1 }

  enabled_goes : (u : ℕ) → IsEnabled (next_of P h) h u → GoesOn events members u
  enabled_goes u e =
      let p = member_of u e.live in
      let both : Some p.0.ask ≡ Some e.ask = sym (waits u p.0 p.1 e.live).asks ∙ e.is_next in
      let same : p.0.ask ≡ e.ask = cc in
      (p.0, p.1, (e.live, ap (λ (a : Ask). blocked_by events u a.op) same ∙ e.free))

  enabled_list : (xs : List ℕ) → IsRisingList (GoesOn events members) xs → IsRisingList (IsEnabled (next_of P h) h) xs
  enabled_list xs r = record { rises = r.rises; only = λ i x is. goes_enabled x (r.only i x is); all = λ x e. r.all x (enabled_goes x e) }

  -- where none can go, each live thread is stuck
  pub stuck : IsRisingList (GoesOn events members) [] → (u : ℕ) → IsLive events u → IsStuck (next_of P h) h u
  stuck r u live = let p = member_of u live in record {
    ask = p.0.ask;
    is_next = (waits u p.0 p.1 live).asks;
    blocked = by_holder p.0 p.1 (blocked_by events u p.0.ask.op) refl;
  }
    where
      by_holder : (member : Member) → slice_get members u ≡ Some member → (o : Option Holder) → blocked_by events u member.ask.op ≡ o → IsSome (blocked_by events u member.ask.op)
      by_holder member get None is = let t = r.all u (member, get, (live, is)) in let clash : None ≡ Some u = t.1 in cc
      by_holder member get (Some holder) is = ap is_some is

  -- the thread at the chosen place
  module _ (xs : List ℕ) (rising : IsRisingList (GoesOn events members) xs) (open' : StepVerdict m.bound h None) (n : Execution) (thread : ℕ) (reply : Reply) (t : IsTurn m n members xs at.words thread reply) where
    abbrev member : Member
    member = t.member

    abbrev a : AddsStep (record m { generator = after_words m.seed (at.words + words_for (length xs)) }) n thread member.ask reply
    a = t.adds

    can_go : CanGo events thread member.ask
    can_go =
        let p = rising.only (chosen m.seed at.words (length xs)) thread t.place in
        let both : Some p.0 ≡ Some member = sym p.1 ∙ t.get in
        let same : p.0 ≡ member = cc in
        subst (λ (x : Member). CanGo events thread x.ask) same p.2

    abbrev waiting : IsWaiting checked.program member (own_replies h thread)
    waiting = waits thread member t.get can_go.0

    abbrev own : IsOpOf (record { tables = checked.tables; functions = signatures_in checked.program.items; replies = own_replies h thread }) member.ask.op
    own = is_own law checked (own_replies h thread) member.ask waiting.asks

    abbrev e : Entry
    e = a.entry

    step : IsStep Offered P.setting h e.thread member.ask e
    step = subst (λ (p : Setting × ℕ). IsStep Offered p.0 h p.1 member.ask e) (λ i. (at.setting i, sym a.adds.step.of_thread i)) a.adds.step

    legal : IsLegalStep Offered P m.bound h e
    legal = record {
      goes_on = goes_on {thread = thread} open' (goes_enabled thread (member, t.get, can_go));
      live = subst (IsLive events) (sym a.adds.step.of_thread) can_go.0;
      ask = member.ask;
      asked = ap (next_of P h) a.adds.step.of_thread ∙ waiting.asks;
      free = ap (λ (t : ℕ). blocked_by events t member.ask.op) a.adds.step.of_thread ∙ can_go.1;
      step = step;
    }

    abbrev drawing : MatchOption (op_cell member.ask.op) ⊤ (λ _. slice_get e.offered (chosen m.seed (at.words + words_for (length xs)) (length e.offered)) ≡ Some e.from)
        × HasDrawn n (at.words + words_for (length xs) + words_for (length e.offered))
    drawing = a.drawn (at.words + words_for (length xs)) refl

    abbrev chosen_now : IsChosen P m.seed at.words h e
    chosen_now = record {
      threads = xs;
      enabled = enabled_list xs rising;
      thread = t.place ∙ ap (λ (t : ℕ). Some t) (sym a.adds.step.of_thread);
      store = subst (λ (o : Op). MatchOption (op_cell o) ⊤ (λ _. slice_get e.offered (chosen m.seed (at.words + words_for (length xs)) (length e.offered)) ≡ Some e.from)) (sym a.adds.step.op) drawing.0;
    }

    way_now : OnTheWay Offered P m.seed m.bound (at.words + words_for (length xs) + words_for (length e.offered)) (h ++ e ∷ [])
    way_now = goes at.words h e at.way legal chosen_now

    pub same_start : (n.seed ≡ m.seed) × (n.bound ≡ m.bound)
    same_start = (a.adds.seed, a.adds.bound)

    no_init : is_init e.op ≡ false
    no_init = ap is_init a.adds.step.op ∙ of_own member.ask.op own
      where
        of_own : (o : Op) → IsOpOf (record { tables = checked.tables; functions = signatures_in checked.program.items; replies = own_replies h thread }) o → is_init o ≡ false
        of_own (op.Init cell value) legal' = absurd legal'
        of_own _ legal' = refl

    counted : step_count n.history ≡ step_count h + 1
    counted = ap step_count a.adds.history ∙ count_more h e no_init

    pub more_steps : step_count h < step_count n.history
    more_steps = omega (arith, counted)

    joined : events_of n.history ≡ events ++ event_of e ∷ []
    joined = ap events_of a.adds.history ∙ events_of-append h (e ∷ [])

    kind : (event_of e).kind ≡ kind_of member.ask.op e.reply
    kind = ap (λ (o : Op). kind_of o e.reply) a.adds.step.op

    told_now : e.reply ≡ answer m.setting events thread member.ask.op e.from
    told_now = a.adds.step.reply

    -- the step does not end the run
    silent : n.verdict ≡ None → step_verdict thread member.ask.op e.reply ≡ None
    silent none' =
        let says = (undecided_says m.bound n.history n.verdict a.adds.verdict none').0 in
        ap (λ (p : ℕ × Op). step_verdict p.0 p.1 e.reply) (λ i. (sym a.adds.step.of_thread i, sym a.adds.step.op i)) ∙ (sym (says_last h e) ∙ (ap last_says (sym a.adds.history) ∙ says))

    named_now : CreatesAreNamed (signatures_in checked.program.items) (events_of n.history)
    named_now = subst (CreatesAreNamed (signatures_in checked.program.items)) (sym joined) (named_more events (event_of e) (signatures_in checked.program.items) at.named (λ yes'. here (create_or_not member.ask.op e.reply) yes'))
      where
        here : (is_create (kind_of member.ask.op e.reply) ≡ false) ⊎ ((function : ℕ) × (argument : ℤ) × (member.ask.op ≡ op.Create function argument)) → is_create (event_of e).kind ≡ true
            → NamesFunction (signatures_in checked.program.items) (event_of e).kind
        here (inl not') yes' = let clash : true ≡ false = sym yes' ∙ (ap is_create kind ∙ not') in cc
        here (inr p) yes' =
            subst (NamesFunction (signatures_in checked.program.items)) (sym (kind ∙ ap (λ (o : Op). kind_of o e.reply) p.2))
            (own_named (record { tables = checked.tables; functions = signatures_in checked.program.items; replies = own_replies h thread }) member.ask.op p.0 p.1 p.2 own)

    few_now : n.verdict ≡ None → created (events_of n.history) < thread_limit
    few_now none' = elim (create_or_not member.ask.op e.reply) [
      | inl not' ↦ omega (arith, ap created joined, created_more events (event_of e), ap bit (ap is_create kind ∙ not'), at.few none)
      | inr p ↦
          let says : step_verdict thread (op.Create p.0 p.1) (answer m.setting events thread (op.Create p.0 p.1) e.from) ≡ None =
          subst (λ (o : Op). step_verdict thread o (answer m.setting events thread o e.from) ≡ None) p.2 (ap (step_verdict thread member.ask.op) (sym told_now) ∙ silent none') in
          omega (arith, ap created joined, created_more events (event_of e), ap bit (ap is_create kind ∙ ap (λ (o : Op). is_create (kind_of o e.reply)) p.2), create_room m.setting events thread p.0 p.1 e.from says)
    ]

    -- what the thread was told so far, and what another was
    own_now : own_replies n.history thread ≡ own_replies h thread ++ reply ∷ []
    own_now = ap (λ (es : List Entry). own_replies es thread) a.adds.history ∙ (own_more h e thread a.adds.step.of_thread no_init ∙ ap (λ (r : Reply). own_replies h thread ++ r ∷ []) a.told)

    other_now : (u : ℕ) → (u ≡ thread → ⊥) → own_replies n.history u ≡ own_replies h u
    other_now u other = ap (λ (es : List Entry). own_replies es u) a.adds.history ∙ other_more h e u (λ same. other (sym same ∙ a.adds.step.of_thread))

    told_few : CreatedAreFew n.history
    told_few u i t get' = elim (eqb_tells u thread) [
      | inl same ↦ elim (old_or_end (own_replies h thread) reply i (Created t) (subst (λ (rs : List Reply). slice_get rs i ≡ Some (Created t)) (ap (own_replies n.history) same.1 ∙ own_now) get')) [
        | inl old ↦ at.told thread i t old
        | inr end ↦ created_few m.setting events thread member.ask.op e.from t (sym told_now ∙ (a.told ∙ end.1))
      ]
      | inr other ↦ at.told u i t (subst (λ (rs : List Reply). slice_get rs i ≡ Some (Created t)) (other_now u other.1) get')
    ]

    unmarked_now : (u : ℕ) (ask : Ask) → slice_get n.marks u ≡ Some (Some ask) → ⊥
    unmarked_now u ask get' = elim (set_at m.marks thread u None (Some ask) (subst (λ (ms : List (Option Ask)). slice_get ms u ≡ Some (Some ask)) a.adds.marks get')) [
      | inl p ↦ let clash : None ≡ Some ask = p.1 in cc
      | inr p ↦ at.unmarked u ask p.1
    ]

    bounded_now : step_count n.history ≤ n.bound
    bounded_now = omega (arith, counted, at.steps, a.adds.bound, (undecided_says m.bound h None open' refl).1)

    at_with : (news : List Member) → (n.verdict ≡ None → AreWaiting checked.program news n.history) → IsAt checked n news
    at_with news wait = record {
      setting = a.adds.setting ∙ at.setting;
      mutexes = a.adds.mutexes ∙ at.mutexes;
      words = at.words + words_for (length xs) + words_for (length e.offered);
      way = subst (λ (p : (ℕ × ℕ) × List Entry). OnTheWay Offered P p.0.0 p.0.1 (at.words + words_for (length xs) + words_for (length e.offered)) p.1) (λ i. ((sym a.adds.seed i, sym a.adds.bound i), sym a.adds.history i)) way_now;
      drawn = drawing.1;
      unmarked = unmarked_now;
      steps = bounded_now;
      named = named_now;
      told = told_few;
      few = few_now;
      waiting = wait;
    }

    -- this is the member that went
    module _ (x : Member) (value : x ≡ get_or members thread x) where
      found : member ≡ x
      found = sym (get_or_from_slice_get members thread member x t.get) ∙ sym value

      unchanged : slice_set members thread x ≡ members
      unchanged = set_same members thread x (t.get ∙ ap (λ (y : Member). Some y) found)

      was_waiting : IsWaiting checked.program x (own_replies h thread)
      was_waiting = subst (λ (y : Member). IsWaiting checked.program y (own_replies h thread)) found waiting

      pub waits_told : (replies : List Reply) × IsWaiting checked.program x replies
      waits_told = (own_replies h thread, was_waiting)

      -- it is stopped
      pub at_stop : IsSome n.verdict → IsAt checked n (slice_set members thread x)
      at_stop kept = at_with (slice_set members thread x) (λ none'. let clash : true ≡ false = sym kept ∙ ap is_some none' in cc)

      ended_before : (u : ℕ) → has_ended (events_of n.history) u ≡ false → has_ended events u ≡ false
      ended_before u going = ended_less events (event_of e) u (ap (λ (es : List Event). has_ended es u) (sym joined) ∙ going)

      other_waits : (u : ℕ) (x : Member) → (u ≡ thread → ⊥) → slice_get members u ≡ Some x → has_ended (events_of n.history) u ≡ false → IsWaiting checked.program x (own_replies n.history u)
      other_waits u x other get' going = subst (IsWaiting checked.program x) (sym (other_now u other)) ((at.waiting none).each u x get' (ended_before u going))

      -- the thread has ended
      pub at_end : (value : ℤ) × (x.ask.op ≡ op.End value) → IsAt checked n (slice_set members thread x)
      at_end ends = subst (IsAt checked n) (sym unchanged) (at_with members (λ none'. record { count = (at.waiting none).count; each = each }))
        where
          over : has_ended (events_of n.history) thread ≡ false → ⊥
          over going =
              ended_here events (event_of e) thread a.adds.step.of_thread (ap is_end kind ∙ ap (λ (o : Op). is_end (kind_of o e.reply)) (ap (λ (y : Member). y.ask.op) found ∙ ends.1)) (ap (λ (es : List Event). has_ended es thread) (sym joined) ∙ going)

          each : (u : ℕ) (x : Member) → slice_get members u ≡ Some x → has_ended (events_of n.history) u ≡ false → IsWaiting checked.program x (own_replies n.history u)
          each u x get' going = elim (eqb_tells u thread) [
            | inl same ↦ absurd (over (ap (has_ended (events_of n.history)) (sym same.1) ∙ going))
            | inr other ↦ other_waits u x other.1 get' going
          ]

      -- the thread was told, and goes on
      pub at_told : (new : Member) → ((replies : List Reply) → IsWaiting checked.program x replies → IsWaiting checked.program new (replies ++ reply ∷ [])) → IsAt checked n (slice_set members thread new)
      at_told new told = at_with (slice_set members thread new) (λ none'. record { count = length-set members thread new ∙ (at.waiting none).count; each = each })
        where
          each : (u : ℕ) (x : Member) → slice_get (slice_set members thread new) u ≡ Some x → has_ended (events_of n.history) u ≡ false → IsWaiting checked.program x (own_replies n.history u)
          each u x get' going = elim (set_at members thread u new x get') [
            | inl p ↦ subst (λ (q : Member × List Reply). IsWaiting checked.program q.0 q.1) (λ i. (p.1 i, (sym own_now ∙ ap (own_replies n.history) (sym p.0)) i)) (told (own_replies h thread) was_waiting)
            | inr p ↦ other_waits u x p.0 p.1 going
          ]

      -- its reply is of the kind of what it wanted
      pub fits_now : FaultlessLiesWithin → is_some n.verdict ≡ false → (ends : Bool) → ((value : ℤ) × (x.ask.op ≡ op.End value) → IsTrue ends) → ends ≡ false → IsReplyTo (signatures_in checked.program.items) x.ask.op reply
      fits_now lies none_kept ends tells not_end =
          let main = (lies checked.program checked.few checked.faultless).main checked.main checked.number in
          let begun = began_named (signatures_in checked.program.items) m.setting events thread main.0 (ap (λ (s : Setting). slice_get (signatures_in checked.program.items) s.main) at.setting ∙ main.1.0) at.named can_go.0.started in
          subst (λ (p : Member × Reply). IsReplyTo (signatures_in checked.program.items) p.0.ask.op p.1) (λ i. (found i, (sym told_now ∙ a.told) i))
          (fits (signatures_in checked.program.items) m.setting events thread e.from member.ask.op begun
          (λ cell value same. own_no_init (record { tables = checked.tables; functions = signatures_in checked.program.items; replies = own_replies h thread }) cell member.ask.op value same own) (λ value same. let ended : ends ≡ true = tells (value, ap (λ (y : Member). y.ask.op) (sym found) ∙ same) in let clash : true ≡ false = sym ended ∙ not_end in cc)
          (ap (step_verdict thread member.ask.op) (sym told_now) ∙ silent (no_value n.verdict none_kept)))
