-- Which threads still ask.
use Rattle.std.proofs.Common.{◌≡◌, ℕ, suc, Bool, true, false, not, ◌&&◌, cond, nat_eq, List, [], ◌∷◌, ◌++◌, Some, None, slice_get, refl, sym, ap, ◌∙◌, subst, inl, inr, append-nil}
use Rattle.std.specs.Prelude.{ℤ, ◌⊎◌}
use Rattle.std.proofs.lemmas.Bool.Decides.{eqb_tells}
use Rattle.std.proofs.lemmas.List.Elements.{filter-append}
use Rattle.c11_check.specs.declared.checked.Checked.{Checked}
use Rattle.c11_check.specs.declared.entity.Signature.{Signature}
use Rattle.c11_check.specs.Lies.{FaultlessLiesWithin, signatures_in}
use Rattle.c11_events.specs.declared.cells.CellInfo.{CellInfo}
use Rattle.c11_events.specs.declared.entry.Entry.{Entry}
use Rattle.c11_events.specs.declared.event.Event.{Event}
use Rattle.c11_events.specs.declared.op.Ask.{Ask}
use Rattle.c11_events.specs.declared.op.Op.{Op}
use Rattle.c11_events.specs.declared.op.Op.TheVariants as op
use Rattle.c11_events.specs.declared.reply.Reply.{Reply}
use Rattle.c11_events.specs.declared.reply.Reply.TheVariants as reply
use Rattle.c11_events.specs.EventOf.{event_of, events_of, kind_of}
use Rattle.c11_events.specs.Events.{is_create}
use Rattle.c11_events.specs.Offered.{Offered}
use Rattle.c11_events.specs.Steps.{init_from, is_init, own_replies, own_steps}
use Rattle.c11_events.specs.Verdicts.{step_verdict}
use Rattle.c11_events.proofs.Histories.{events_of-append}
use Rattle.c11_machine.specs.Programs.{program_of}
use Rattle.c11_machine.specs.Runs.{IsLegalStep, Legal, Program, more, next_of, start}
use Rattle.c11_meaning.specs.Legal.{AsksAreLegal, World}
use Rattle.c11_meaning.specs.Progress.{AsksAgain, AsksNoMore, Ends, IsReplyTo}
use Rattle.c11_run.specs.Going.{CreatesAreNamed, NamesFunction}
use Rattle.c11_run.proofs.Added.{create_or_not, init_named, init_replies, named_more, other_more, own_more}
use Rattle.c11_run.proofs.Fitting.{began_named, fits, is_own, own_named, own_no_init}
use Rattle.c11_run.proofs.LegalRuns.{init_entry}
use Rattle.c11_run.proofs.Telling.{asks_first}
use Rattle.c11_turn.specs.Asking.{AsksUntilOver, IsOver}
use Rattle.c11_turn.proofs.Histories.{step_no_init}

-- ---- the steps of one thread

module _ (entries : List Entry) (e : Entry) where
  steps_more : (u : ℕ) → own_steps (entries ++ e ∷ []) u ≡ own_steps entries u ++ own_steps (e ∷ []) u
  steps_more u = filter-append (λ (g : Entry). nat_eq g.thread u && not (is_init g.op)) entries (e ∷ [])

  pub own_gained : (u : ℕ) → e.thread ≡ u → is_init e.op ≡ false → own_steps (entries ++ e ∷ []) u ≡ own_steps entries u ++ e ∷ []
  own_gained u is no_init = steps_more u ∙ ap (λ (es : List Entry). own_steps entries u ++ es) (here (nat_eq e.thread u) (is_init e.op) (same u is) no_init)
    where
      same : (u : ℕ) → e.thread ≡ u → nat_eq e.thread u ≡ true
      same u is = elim (eqb_tells e.thread u) [ inl p ↦ p.0 | inr p ↦ absurd (p.1 is) ]

      here : (a b : Bool) → a ≡ true → b ≡ false → cond (a && not b) (e ∷ []) [] ≡ e ∷ []
      here true true p q = absurd (let clash : true ≡ false = q in cc)
      here true false p q = refl
      here false b p q = absurd (let clash : false ≡ true = p in cc)

  pub others_same : (u : ℕ) → (e.thread ≡ u → ⊥) → own_steps (entries ++ e ∷ []) u ≡ own_steps entries u
  others_same u other = steps_more u ∙ (ap (λ (es : List Entry). own_steps entries u ++ es) (there (nat_eq e.thread u) (differs u other)) ∙ append-nil (own_steps entries u))
    where
      differs : (u : ℕ) → (e.thread ≡ u → ⊥) → nat_eq e.thread u ≡ false
      differs u other = elim (eqb_tells e.thread u) [ inl p ↦ absurd (other p.1) | inr p ↦ p.0 ]

      there : (a : Bool) → a ≡ false → cond (a && not (is_init e.op)) (e ∷ []) [] ≡ []
      there true p = absurd (let clash : true ≡ false = p in cc)
      there false p = refl

pub init_own : (n u : ℕ) (cells : List CellInfo) → own_steps (init_from n cells) u ≡ []
init_own n u [] = refl
init_own n u (info ∷ cells) = no_step (nat_eq 0 u) (init_own (suc n) u cells)
  where
    no_step : (b : Bool) → own_steps (init_from (suc n) cells) u ≡ [] → cond (b && false) (init_entry n info ∷ own_steps (init_from (suc n) cells) u) (own_steps (init_from (suc n) cells) u) ≡ []
    no_step true rest = rest
    no_step false rest = rest

pub over_last : (xs : List Entry) (e : Entry) → IsOver (xs ++ e ∷ []) → Ends e.op e.reply
over_last [] e over = over
over_last (x ∷ []) e over = over
over_last (x ∷ y ∷ xs) e over = over_last (y ∷ xs) e over

pub over_by : (xs : List Entry) (e : Entry) → Ends e.op e.reply → IsOver (xs ++ e ∷ [])
over_by [] e ends = ends
over_by (x ∷ []) e ends = ends
over_by (x ∷ y ∷ xs) e ends = over_by (y ∷ xs) e ends

-- what does not end its thread ends no run
silent : (thread : ℕ) (o : Op) (r : Reply) → (Ends o r → ⊥) → step_verdict thread o r ≡ None
silent thread (op.End value) r not_over = absurd (not_over tt)
silent thread (op.Stop kind) r not_over = absurd (not_over tt)
silent thread _ (reply.Fault kind) not_over = absurd (not_over tt)
silent thread _ _ not_over = refl

module _ (law : AsksAreLegal) (again : AsksAgain) (no_more : AsksNoMore) (lies : FaultlessLiesWithin) (checked : Checked) (bound : ℕ) where
  abbrev P : Program
  P = program_of checked

  abbrev functions : List Signature
  functions = signatures_in checked.program.items

  abbrev cells : List CellInfo
  cells = checked.tables.atomics

  abbrev world : List Reply → World
  world replies = record { tables = checked.tables; functions = functions; replies = replies }

  -- each Create names a function that is there
  legal_named : (entries : List Entry) → Legal Offered P bound entries → CreatesAreNamed functions (events_of entries)
  legal_named _ start = λ i e at. let none : slice_get [] i ≡ Some e = subst (λ (es : List Event). slice_get es i ≡ Some e) (init_named 0 cells) at in cc
  legal_named _ (more entries e before s) =
      subst (CreatesAreNamed functions) (sym (events_of-append entries (e ∷ []))) (named_more (events_of entries) (event_of e) functions (legal_named entries before) (λ yes'. here (create_or_not s.ask.op e.reply) yes'))
    where
      kind : (event_of e).kind ≡ kind_of s.ask.op e.reply
      kind = ap (λ (o : Op). kind_of o e.reply) s.step.op

      here : (is_create (kind_of s.ask.op e.reply) ≡ false) ⊎ ((function : ℕ) × (argument : ℤ) × (s.ask.op ≡ op.Create function argument)) → is_create (event_of e).kind ≡ true → NamesFunction functions (event_of e).kind
      here (inl not') yes' = absurd (let clash : true ≡ false = sym yes' ∙ (ap is_create kind ∙ not') in cc)
      here (inr p) yes' =
          subst (NamesFunction functions) (sym (kind ∙ ap (λ (o : Op). kind_of o e.reply) p.2))
          (own_named (world (own_replies entries e.thread)) s.ask.op p.0 p.1 p.2 (is_own law checked (own_replies entries e.thread) s.ask s.asked))

  -- a step that does not end its thread was told what is of its kind
  fits_step : (entries : List Entry) (e : Entry) → Legal Offered P bound entries → (s : IsLegalStep Offered P bound entries e) → (Ends s.ask.op e.reply → ⊥) → IsReplyTo functions s.ask.op e.reply
  fits_step entries e before s goes =
      let main = (lies checked.program checked.few checked.faultless).main checked.main checked.number in
      let own = is_own law checked (own_replies entries e.thread) s.ask s.asked in
      subst (IsReplyTo functions s.ask.op) (sym s.step.reply)
      (fits functions P.setting (events_of entries) e.thread e.from s.ask.op (began_named functions P.setting (events_of entries) e.thread main.0 main.1.0 (legal_named entries before) s.live.started)
      (λ cell value same. own_no_init (world (own_replies entries e.thread)) cell s.ask.op value same own) (λ value same. goes (subst (λ (o : Op). Ends o e.reply) (sym same) tt))
      (ap (step_verdict e.thread s.ask.op) (sym s.step.reply) ∙ silent e.thread s.ask.op e.reply goes))

  -- over, it asks for nothing, and else for something
  abbrev pub AsksStill : List Entry → ℕ → Type 0
  AsksStill entries u = (IsOver (own_steps entries u) → next_of P entries u ≡ None) × ((IsOver (own_steps entries u) → ⊥) → (ask : Ask) × (next_of P entries u ≡ Some ask))

  pub asks_still : (entries : List Entry) → Legal Offered P bound entries → (u : ℕ) → AsksStill entries u
  asks_still _ start u = (
    λ over. absurd (subst IsOver (init_own 0 u cells) over),
    λ goes. (record { line = 0; op = op.Begin }, ap P.asks (init_replies 0 u cells) ∙ asks_first checked.program),
  )
  asks_still _ (more entries e before s) u = elim (eqb_tells e.thread u) [
    | inl same ↦ (
      λ over. told_now same.1 ∙ no_more checked.program (own_replies entries e.thread) s.ask e.reply checked.few checked.faultless s.asked
          (subst (λ (o : Op). Ends o e.reply) s.step.op (over_last (own_steps entries u) e (subst IsOver (own_now same.1) over))),
      λ goes.
          let kind = fits_step entries e before s (λ ends. goes (subst IsOver (sym (own_now same.1)) (over_by (own_steps entries u) e (subst (λ (o : Op). Ends o e.reply) (sym s.step.op) ends)))) in
          let next = again checked.program (own_replies entries e.thread) s.ask e.reply checked.few checked.faultless s.asked kind in
          (next.0, told_now same.1 ∙ next.1),
    )
    | inr other ↦
        let old = asks_still entries before u in
        let own = others_same entries e u other.1 in
        let told = ap P.asks (other_more entries e u other.1) in
        (λ over. told ∙ old.0 (subst IsOver own over), λ goes. let next = old.1 (λ over. goes (subst IsOver (sym own) over)) in (next.0, told ∙ next.1))
  ]
    where
      no_init : is_init e.op ≡ false
      no_init = step_no_init law checked Offered bound entries e s

      own_now : e.thread ≡ u → own_steps (entries ++ e ∷ []) u ≡ own_steps entries u ++ e ∷ []
      own_now same = own_gained entries e u same no_init

      told_now : e.thread ≡ u → P.asks (own_replies (entries ++ e ∷ []) u) ≡ P.asks (own_replies entries e.thread ++ e.reply ∷ [])
      told_now same = ap P.asks (ap (own_replies (entries ++ e ∷ [])) (sym same) ∙ own_more entries e e.thread refl no_init)

pub asks_until_over : AsksAreLegal → AsksAgain → AsksNoMore → FaultlessLiesWithin → AsksUntilOver
asks_until_over law again no_more lies terms history thread follows = asks_still law again no_more lies terms.program.value terms.bound history follows.legal thread
