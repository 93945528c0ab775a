-- A turn of the thread with what it asks for next.
use Rattle.std.proofs.Common.{◌≡◌, ℕ, ◌+◌, ◌<◌, ◌^◌, false, List, Option, Some, None, length, slice_get, slice_set, refl, sym, ap, ◌∙◌, subst, arith, inl, inr}
use Rattle.std.specs.Prelude.{⊤, MatchOption}
use Rattle.c11_check.specs.declared.checked.Checked.{Checked}
use Rattle.c11_events.specs.declared.entry.Entry.{Entry}
use Rattle.c11_events.specs.declared.op.Ask.{Ask}
use Rattle.c11_events.specs.declared.reply.Holder.{Holder}
use Rattle.c11_events.specs.declared.reply.Reply.{Reply}
use Rattle.c11_events.specs.declared.verdict.Verdict.{Verdict}
use Rattle.c11_events.specs.declared.verdict.Verdict.TheVariants.{Deadlock}
use Rattle.c11_events.specs.Draws.{chosen, words_for}
use Rattle.c11_events.specs.EventOf.{events_of}
use Rattle.c11_events.specs.Offered.{Offered, op_cell}
use Rattle.c11_events.specs.Replies.{Setting}
use Rattle.c11_events.specs.Steps.{IsStep, is_init, own_replies}
use Rattle.c11_events.specs.Threads.{IsLive, blocked_by}
use Rattle.c11_events.specs.Verdicts.{StepVerdict, VerdictOf, by_deadlock, by_steps, goes_on}
use Rattle.c11_machine.specs.Runs.{IsLegalStep, Legal, Program, choices_of, next_of}
use Rattle.c11_meaning.specs.Legal.{AsksAreLegal}
use Rattle.c11_meaning.specs.Progress.{AsksNoMore}
use Rattle.c11_memory.specs.Execution.{Execution, HasDrawn, IsWithin}
use Rattle.c11_memory.specs.Steps.{AddsStep, CanStep}
use Rattle.c11_memory.specs.Waits.{AllAreStuck, marked}
use Rattle.c11_run.proofs.Added.{other_more}
use Rattle.c11_run.proofs.Fitting.{asks_within}
use Rattle.c11_run.proofs.Lists.{set_at}
use Rattle.c11_turn.specs.declared.terms.Terms.{Terms}
use Rattle.c11_turn.specs.declared.turns.Turned.{Turned}
use Rattle.c11_turn.specs.declared.turns.Turned.TheVariants.{Went, Waits, Stopped}
use Rattle.c11_turn.specs.Hand.{Does, FollowsTerms, IsDue, IsHome, IsMemoryOf, IsReady, IsTurn, before, by_mark, next_in, program_in}
use Rattle.c11_turn.proofs.Following.{follows_more, words_more}
use Rattle.c11_turn.proofs.Histories.{asks_live, legal_length, legal_within, step_no_init, told_few}

module _ (law : AsksAreLegal) (terms : Terms) (m : Execution) (thread : ℕ) (ask : Ask) (due : IsDue terms m thread ask) where
  abbrev checked : Checked
  checked = terms.program.value

  abbrev P : Program
  P = program_in terms

  abbrev h : List Entry
  h = m.history

  abbrev home : IsHome terms h m
  home = due.has.home

  abbrev ready : IsReady terms h m
  ready = due.has.ready

  abbrev legal : Legal Offered P terms.bound h
  legal = due.follows.legal

  pub within : IsWithin m ask.op
  within = asks_within law checked m (own_replies h thread) ask home.setting home.mutexes (told_few law checked Offered terms.bound h legal thread) due.asked

  pub short : length h < 2 ^ 32
  short = omega (arith, legal_length law checked Offered terms.bound h legal, legal_within law checked Offered terms.bound h legal, ready.few_steps, checked.within.0)

  -- ---- nothing changed

  pub ends_kept : (v : Verdict) → m.verdict ≡ Some v → IsTurn terms m m thread ask (Stopped v)
  ends_kept v kept = record {
    does = record { ends = before kept refl; kept = kept; entries = refl; verdict = home.verdict v kept };
    has = due.has;
    follows = due.follows;
  }

  -- ---- the thread waits

  module _ (none : m.verdict ≡ None) (holder : Holder) (live : IsLive (events_of h) thread) (blocked : blocked_by (events_of h) thread ask.op ≡ Some holder) where
    abbrev marks : List (Option Ask)
    marks = slice_set m.marks thread (Some ask)

    -- each mark is what its thread asks for
    all_marks : (u : ℕ) (a : Ask) → slice_get marks u ≡ Some (Some a) → next_in terms h u ≡ Some a
    all_marks u a at = elim (set_at m.marks thread u (Some ask) (Some a) at) [
      | inl p ↦ ap (next_in terms h) p.0 ∙ (due.asked ∙ p.1)
      | inr p ↦ home.marks u a p.1
    ]

    abbrev with_verdict : Option Verdict → Execution
    with_verdict v = record (marked m thread ask) { verdict = v }

    undecided : StepVerdict terms.bound h None
    undecided = ready.undecided none

    stuck : AllAreStuck (with_verdict (Some Deadlock)) → VerdictOf (next_in terms h) terms.bound h (Some Deadlock)
    stuck all = by_deadlock undecided (λ u live. let t = all u live in record { ask = t.ask; is_next = all_marks u t.ask t.mark; blocked = t.blocked })

    memory_with : (o : Option Verdict) → ((v : Verdict) → o ≡ Some v → VerdictOf (next_in terms h) terms.bound h (Some v)) → IsMemoryOf terms h (with_verdict o)
    memory_with o verdict = record {
      home = record {
        entries = refl;
        setting = home.setting;
        mutexes = home.mutexes;
        seed = home.seed;
        bound = home.bound;
        drawn = home.drawn;
        marks = all_marks;
        verdict = verdict;
      };
      ready = record { undecided = λ is. undecided; few_steps = ready.few_steps };
    }

    -- the marked execution
    module _ (n : Execution) (o : Option Verdict) (is : n ≡ with_verdict o) where
      turn_with : (turned : Turned) → Does terms m (with_verdict o) thread ask turned → IsMemoryOf terms h (with_verdict o) → IsTurn terms m n thread ask turned
      turn_with turned does has = subst (λ (x : Execution). IsTurn terms m x thread ask turned) (sym is) (record { does = does; has = has; follows = due.follows })

      pub waits_marked : (count : ℕ) → count ≡ length h → o ≡ None → (AllAreStuck n → ⊥) → IsTurn terms m n thread ask (Waits holder count)
      waits_marked count long no_verdict some_goes = turn_with (Waits holder count) (record {
        none = none;
        blocked = blocked;
        long = long;
        same = λ i. record (with_verdict o) { verdict = (no_verdict ∙ sym none) i };
        marks = λ live i. record (marked m thread ask) { verdict = (no_verdict ∙ sym none) i };
        some_goes = λ live. subst (λ (x : Execution). AllAreStuck x → ⊥) is some_goes;
        unborn = λ unborn. absurd (unborn live);
      }) (memory_with o (λ v kept. absurd (let clash : None ≡ Some v = sym no_verdict ∙ kept in cc)))

      pub stops_marked : (v : Verdict) → o ≡ Some v → v ≡ Deadlock → AllAreStuck n → IsTurn terms m n thread ask (Stopped v)
      stops_marked v kept dead all =
          let deadlocked : o ≡ Some Deadlock = kept ∙ ap (λ (w : Verdict). Some w) dead in
          let verdict : VerdictOf (next_in terms h) terms.bound h (Some Deadlock) = stuck (subst AllAreStuck (is ∙ ap with_verdict deadlocked) all) in
          turn_with (Stopped v) (record {
            ends = by_mark none dead (ap with_verdict kept);
            kept = kept;
            entries = refl;
            verdict = subst (λ (w : Verdict). VerdictOf (next_in terms h) terms.bound h (Some w)) (sym dead) verdict;
          }) (memory_with o (λ w is'. subst (λ (p : Option Verdict). VerdictOf (next_in terms h) terms.bound h p) (sym deadlocked ∙ is') verdict))

  -- ---- the thread makes its step

  module _ (no_more : AsksNoMore) (none : m.verdict ≡ None) (free : blocked_by (events_of h) thread ask.op ≡ None) where
    abbrev live : IsLive (events_of h) thread
    live = asks_live law checked Offered terms.bound no_more h legal thread ask due.asked free

    pub can_step : CanStep m thread ask
    can_step = record { below = due.below; within = within; live = λ is. live; free = λ is. free }

    module _ (n : Execution) (reply : Reply) (a : AddsStep m n thread ask reply) where
      abbrev e : Entry
      e = a.entry

      abbrev undecided' : StepVerdict terms.bound h None
      undecided' = ready.undecided none

      abbrev legal_step : IsLegalStep Offered P terms.bound h e
      legal_step = record {
        goes_on = goes_on {thread = thread} undecided' (record { live = live; ask = ask; is_next = due.asked; free = free });
        live = subst (IsLive (events_of h)) (sym a.adds.step.of_thread) live;
        ask = ask;
        asked = ap (next_of P h) a.adds.step.of_thread ∙ due.asked;
        free = ap (λ (t : ℕ). blocked_by (events_of h) t ask.op) a.adds.step.of_thread ∙ free;
        step = subst (λ (p : Setting × ℕ). IsStep Offered p.0 h p.1 ask e) (λ i. (home.setting i, sym a.adds.step.of_thread i)) a.adds.step;
      }

      no_init : is_init e.op ≡ false
      no_init = step_no_init law checked Offered terms.bound h e legal_step

      drawing : MatchOption (op_cell ask.op) ⊤ (λ _. slice_get e.offered (chosen m.seed (length (choices_of h)) (length e.offered)) ≡ Some e.from) × HasDrawn n (length (choices_of h) + words_for (length e.offered))
      drawing = a.drawn (length (choices_of h)) home.drawn

      follows_now : FollowsTerms terms n.history
      follows_now = subst (FollowsTerms terms) (sym a.adds.history)
          (follows_more P terms.seed terms.bound h e due.follows legal_step
          (subst (λ (s : ℕ). MatchOption (op_cell ask.op) ⊤ (λ _. slice_get e.offered (chosen s (length (choices_of h)) (length e.offered)) ≡ Some e.from)) home.seed drawing.0))

      verdict_now : StepVerdict terms.bound n.history n.verdict
      verdict_now = subst (λ (b : ℕ). StepVerdict b n.history n.verdict) home.bound a.adds.verdict

      -- the thread's mark is gone, and what others ask for is the same
      marks_now : (u : ℕ) (b : Ask) → slice_get n.marks u ≡ Some (Some b) → next_in terms n.history u ≡ Some b
      marks_now u b at = elim (set_at m.marks thread u None (Some b) (subst (λ (ms : List (Option Ask)). slice_get ms u ≡ Some (Some b)) a.adds.marks at)) [
        | inl p ↦ absurd (let clash : None ≡ Some b = p.1 in cc)
        | inr p ↦ ap (λ (es : List Entry). next_in terms es u) a.adds.history ∙ (ap P.asks (other_more h e u (λ same. p.0 (sym same ∙ a.adds.step.of_thread))) ∙ home.marks u b p.1)
      ]

      memory_now : IsMemoryOf terms n.history n
      memory_now = record {
        home = record {
          entries = refl;
          setting = a.adds.setting ∙ home.setting;
          mutexes = a.adds.mutexes ∙ home.mutexes;
          seed = a.adds.seed ∙ home.seed;
          bound = a.adds.bound ∙ home.bound;
          drawn = subst (HasDrawn n) (sym (ap (λ (es : List Entry). length (choices_of es)) a.adds.history ∙ words_more P terms.seed terms.bound h e)) drawing.1;
          marks = marks_now;
          verdict = λ v kept. by_steps (subst (StepVerdict terms.bound n.history) kept verdict_now);
        };
        ready = record {
          undecided = λ is. subst (StepVerdict terms.bound n.history) is verdict_now;
          few_steps = ready.few_steps;
        };
      }

      pub goes : IsTurn terms m n thread ask (Went reply)
      goes = record {
        does = record {
          none = none;
          entry = e;
          gained = a.adds.history;
          of_thread = a.adds.step.of_thread;
          line = a.adds.step.line;
          op = a.adds.step.op;
          told = a.told;
          step = no_init;
          verdict = verdict_now;
        };
        has = memory_now;
        follows = follows_now;
      }
