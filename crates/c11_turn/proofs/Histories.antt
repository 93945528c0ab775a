-- What is so in each history of a checked program.
use Rattle.std.proofs.Common.{◌≡◌, ℕ, suc, ◌+◌, ◌<◌, ◌≤◌, Bool, true, false, ◌&&◌, ◌||◌, nat_eq, nat_lt, List, [], ◌∷◌, ◌++◌, Option, Some, None, length, slice_get, refl, sym, ap, ◌∙◌, subst, arith, inl, inr, length-append}
use Rattle.std.proofs.lemmas.Bool.Decides.{eqb_tells, nat_tests}
use Rattle.std.proofs.lemmas.List.Folds.{list_any-append}
use Rattle.std.specs.Prelude.{if◌then◌else◌}
use Rattle.c11_num.specs.Ranges.{TypedNumber}
use Rattle.c11_check.specs.declared.checked.Checked.{Checked}
use Rattle.c11_events.specs.declared.cells.CellInfo.{CellInfo}
use Rattle.c11_events.specs.declared.entry.Entry.{Entry}
use Rattle.c11_events.specs.declared.event.Event.{Event}
use Rattle.c11_events.specs.declared.op.Ask.{Ask}
use Rattle.c11_events.specs.declared.op.Op.{Op}
use Rattle.c11_events.specs.declared.op.Op.TheVariants as op
use Rattle.c11_events.specs.declared.order.Order.{Order}
use Rattle.c11_events.specs.declared.reply.Holder.TheVariants.{Unborn}
use Rattle.c11_events.specs.declared.reply.Reply.{Reply}
use Rattle.c11_events.specs.declared.reply.Reply.TheVariants.{Created, Exchanged}
use Rattle.c11_events.specs.EventOf.{event_of, events_of, exchange_kind, kind_of}
use Rattle.c11_events.specs.Events.{is_end}
use Rattle.c11_events.specs.Steps.{Offering, init_from, is_init, own_replies, step_count}
use Rattle.c11_events.specs.Threads.{IsLive, blocked_by, created, has_ended}
use Rattle.c11_events.specs.declared.verdict.Verdict.{Verdict}
use Rattle.c11_events.specs.Verdicts.{VerdictOf, by_deadlock, by_steps, goes_on}
use Rattle.c11_events.proofs.Histories.{events_of-append}
use Rattle.c11_machine.specs.Programs.{program_of}
use Rattle.c11_machine.specs.Runs.{IsLegalStep, Legal, Program, more, next_of, start}
use Rattle.c11_meaning.specs.Legal.{AsksAreLegal}
use Rattle.c11_meaning.specs.Progress.{AsksNoMore, Ends}
use Rattle.c11_events.specs.Offered.{Offered}
use Rattle.c11_run.specs.Going.{CreatedAreFew}
use Rattle.c11_run.proofs.Added.{count_more, created_more, init_replies, init_steps, other_more, own_more, undecided_says}
use Rattle.c11_run.proofs.Fitting.{created_few}
use Rattle.c11_run.proofs.LegalRuns.{checked_asks_no_init, length-inits}
use Rattle.c11_run.proofs.Lists.{old_or_end}
use Rattle.c11_run.proofs.Telling.{asks_first}
use Rattle.c11_turn.specs.Hand.{HistoriesAreShort}

-- what becomes an End was asked for as one, after which nothing comes
exchange_ends : (cell : ℕ) (success failure : Order) (desired : TypedNumber) (r : Reply) → is_end (exchange_kind cell success failure desired r) ≡ false
exchange_ends cell success failure desired (Exchanged old true) = refl
exchange_ends cell success failure desired (Exchanged old false) = refl
exchange_ends cell success failure desired _ = refl

end_ends : (o : Op) (r : Reply) → is_end (kind_of o r) ≡ true → Ends o r
end_ends (op.End value) r is = tt
end_ends (op.CompareExchange cell success failure weak expected desired) r is =
    absurd (let clash : true ≡ false = sym is ∙ exchange_ends cell success failure desired r in cc)
end_ends _ r is = absurd (let clash : false ≡ true = is in cc)

init_going : (n u : ℕ) (cells : List CellInfo) → has_ended (events_of (init_from n cells)) u ≡ false
init_going n u [] = refl
init_going n u (info ∷ cells) = no_end (nat_eq 0 u) (init_going (suc n) u cells)
  where
    no_end : (b : Bool) → has_ended (events_of (init_from (suc n) cells)) u ≡ false → ((b && false) || has_ended (events_of (init_from (suc n) cells)) u) ≡ false
    no_end true rest = rest
    no_end false rest = rest

-- a thread goes on after an event of another, or one that is no End
going_more : (events : List Event) (f : Event) (u : ℕ) → has_ended events u ≡ false → (nat_eq f.thread u && is_end f.kind) ≡ false → has_ended (events ++ f ∷ []) u ≡ false
going_more events f u going not = list_any-append (λ (e : Event). nat_eq e.thread u && is_end e.kind) events (f ∷ []) ∙ (λ i. going i || (not i || false))

-- where a run goes on the bound is not reached
not_full : (next : ℕ → Option Ask) (bound : ℕ) (entries : List Entry) (v : Option Verdict) → VerdictOf next bound entries v → v ≡ None → step_count entries ≡ bound → ⊥
not_full next bound entries _ (by_steps s) is = absurd cc
not_full next bound entries _ (by_deadlock s stuck) is = absurd cc
not_full next bound entries _ (goes_on s e) is = (undecided_says bound entries None s refl).1

other_and : (a b : Bool) → a ≡ false → (a && b) ≡ false
other_and true b is = let clash : true ≡ false = is in cc
other_and false b is = refl

module _ (law : AsksAreLegal) (checked : Checked) (Offers : Offering) (bound : ℕ) where
  abbrev P : Program
  P = program_of checked

  abbrev cells : List CellInfo
  cells = checked.tables.atomics

  pub step_no_init : (entries : List Entry) (e : Entry) → IsLegalStep Offers P bound entries e → is_init e.op ≡ false
  step_no_init entries e s = ap is_init s.step.op ∙ checked_asks_no_init law checked (own_replies entries e.thread) s.ask s.asked

  -- no thread was told of one past the limit
  pub told_few : (entries : List Entry) → Legal Offers P bound entries → CreatedAreFew entries
  told_few _ start u i t at = let none : slice_get [] i ≡ Some (Created t) = subst (λ (rs : List Reply). slice_get rs i ≡ Some (Created t)) (init_replies 0 u cells) at in cc
  told_few _ (more entries e before s) u i t at = elim (eqb_tells u e.thread) [
    | inl same ↦ elim (old_or_end (own_replies entries e.thread) e.reply i (Created t) (subst (λ (rs : List Reply). slice_get rs i ≡ Some (Created t)) (ap (own_replies (entries ++ e ∷ [])) same.1 ∙ own_more entries e e.thread refl (step_no_init entries e s)) at)) [
      | inl old ↦ told_few entries before e.thread i t old
      | inr end ↦ created_few P.setting (events_of entries) e.thread s.ask.op e.from t (sym s.step.reply ∙ end.1)
    ]
    | inr other ↦ told_few entries before u i t (subst (λ (rs : List Reply). slice_get rs i ≡ Some (Created t)) (other_more entries e u (λ same. other.1 (sym same))) at)
  ]

  -- a history has the Inits and its steps
  pub legal_length : (entries : List Entry) → Legal Offers P bound entries → length entries ≡ length cells + step_count entries
  legal_length _ start = omega (arith, length-inits 0 cells, init_steps 0 cells)
  legal_length _ (more entries e before s) = omega (arith, length-append entries (e ∷ []), count_more entries e (step_no_init entries e s), legal_length entries before)

  -- it has no more steps than the bound
  pub legal_within : (entries : List Entry) → Legal Offers P bound entries → step_count entries ≤ bound
  legal_within _ start = omega (arith, init_steps 0 cells)
  legal_within _ (more entries e before s) = omega (arith, count_more entries e (step_no_init entries e s), legal_within entries before, not_full (next_of P entries) bound entries None s.goes_on refl)

  -- a thread that is not created was told nothing
  pub unborn_told : (entries : List Entry) → Legal Offers P bound entries → (u : ℕ) → created (events_of entries) < u → own_replies entries u ≡ []
  unborn_told _ start u unborn = init_replies 0 u cells
  unborn_told _ (more entries e before s) u unborn =
      let grown : created (events_of (entries ++ e ∷ [])) ≡ created (events_of entries) + _ = ap created (events_of-append entries (e ∷ [])) ∙ created_more (events_of entries) (event_of e) in
      other_more entries e u (λ same. omega (arith, grown, s.live.started)) ∙ unborn_told entries before u (omega (arith, grown))

  -- a thread that asks for something has not ended
  pub asks_going : AsksNoMore → (entries : List Entry) → Legal Offers P bound entries → (u : ℕ) (ask : Ask) → next_of P entries u ≡ Some ask → has_ended (events_of entries) u ≡ false
  asks_going no_more _ start u ask asked = init_going 0 u cells
  asks_going no_more _ (more entries e before s) u ask asked =
      ap (λ (es : List Event). has_ended es u) (events_of-append entries (e ∷ [])) ∙ (elim (eqb_tells e.thread u) [
        | inl same ↦ going_more (events_of entries) (event_of e) u (ap (has_ended (events_of entries)) (sym same.1) ∙ s.live.going) (λ i. same.0 i && not_end same.1 (is_end (kind_of e.op e.reply)) refl i)
        | inr other ↦ going_more (events_of entries) (event_of e) u (asks_going no_more entries before u ask (ap P.asks (sym (other_more entries e u other.1)) ∙ asked)) (other_and _ _ other.0)
      ])
    where
      not_end : e.thread ≡ u → (b : Bool) → is_end (kind_of e.op e.reply) ≡ b → b ≡ false
      not_end same false is = refl
      not_end same true is =
          let ends : Ends s.ask.op e.reply = end_ends s.ask.op e.reply (ap (λ (o : Op). is_end (kind_of o e.reply)) (sym s.step.op) ∙ is) in
          let none : P.asks (own_replies entries e.thread ++ e.reply ∷ []) ≡ None = no_more checked.program (own_replies entries e.thread) s.ask e.reply checked.few checked.faultless s.asked ends in
          let now : own_replies (entries ++ e ∷ []) u ≡ own_replies entries e.thread ++ e.reply ∷ [] = ap (own_replies (entries ++ e ∷ [])) (sym same) ∙ own_more entries e e.thread refl (step_no_init entries e s) in
          let clash : None ≡ Some ask = sym none ∙ (ap P.asks (sym now) ∙ asked) in
          absurd cc

  -- a thread that asks for something and is not blocked is live
  pub asks_live : AsksNoMore → (entries : List Entry) → Legal Offers P bound entries → (u : ℕ) (ask : Ask) → next_of P entries u ≡ Some ask → blocked_by (events_of entries) u ask.op ≡ None
      → IsLive (events_of entries) u
  asks_live no_more entries legal u ask asked free = by_birth (nat_lt (created (events_of entries)) u) refl
    where
      by_birth : (b : Bool) → nat_lt (created (events_of entries)) u ≡ b → IsLive (events_of entries) u
      by_birth false is = record { started = grind (arith, nat_tests); going = asks_going no_more entries legal u ask asked }
      by_birth true is =
          let unborn : created (events_of entries) < u = grind (arith, nat_tests) in
          let begins : Some (record { line = 0; op = op.Begin }) ≡ Some ask = sym (asks_first checked.program) ∙ (ap P.asks (sym (unborn_told entries legal u unborn)) ∙ asked) in
          let same : record { line = 0; op = op.Begin } ≡ ask = cc in
          let holds : (if nat_lt (created (events_of entries)) u then Some Unborn else None) ≡ None = ap (λ (a : Ask). blocked_by (events_of entries) u a.op) same ∙ free in
          let clash : Some Unborn ≡ None = ap (λ (b : Bool). if b then Some Unborn else None) (sym is) ∙ holds in
          absurd cc

pub histories_short : AsksAreLegal → HistoriesAreShort
histories_short law terms history follows =
    let checked = terms.program.value in
    (legal_within law checked Offered terms.bound history follows.legal, omega (arith, legal_length law checked Offered terms.bound history follows.legal, checked.within.0))
