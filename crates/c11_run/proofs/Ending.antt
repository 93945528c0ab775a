-- How the run begins and ends.
use Rattle.std.proofs.Common.{◌≡◌, ℕ, zero, suc, List, [], ◌∷◌, Some, None, length, replicate, slice_get, refl, sym, ◌∙◌, subst, arith}
use Rattle.c11_check.specs.declared.checked.Checked.{Checked}
use Rattle.c11_check.specs.Lies.{signatures_in}
use Rattle.c11_events.specs.declared.cells.CellInfo.{CellInfo}
use Rattle.c11_events.specs.declared.event.Event.{Event}
use Rattle.c11_events.specs.declared.op.Ask.{Ask}
use Rattle.c11_events.specs.declared.reply.Reply.{Reply}
use Rattle.c11_events.specs.declared.reply.Reply.TheVariants.{Created}
use Rattle.c11_events.specs.declared.verdict.Verdict.{Verdict}
use Rattle.c11_events.specs.declared.verdict.Verdict.TheVariants.{Deadlock}
use Rattle.c11_events.specs.EventOf.{events_of}
use Rattle.c11_events.specs.Offered.{IsRisingList, Offered}
use Rattle.c11_events.specs.Replies.{thread_limit}
use Rattle.c11_events.specs.Steps.{init_entries}
use Rattle.c11_events.specs.Verdicts.{StepVerdict, VerdictOf, by_deadlock, by_steps}
use Rattle.c11_machine.specs.Programs.{program_of}
use Rattle.c11_machine.specs.Runs.{OneRun, begins, next_of}
use Rattle.c11_meaning.specs.Legal.{AsksAreLegal}
use Rattle.c11_memory.specs.Execution.{Execution, opened}
use Rattle.c11_memory.specs.Waits.{IsStanding}
use Rattle.c11_memory.specs.Waits as waits
use Rattle.c11_run.specs.declared.team.Member.{Member}
use Rattle.c11_run.specs.Going.{CreatedAreFew, CreatesAreNamed, GoesOn, IsAt, IsWaiting}
use Rattle.c11_run.proofs.Added.{init_created, init_named, init_replies, init_steps}
use Rattle.c11_run.proofs.Stepping.{stuck}

-- ---- the beginning

none_marked : (n u : ℕ) (ask : Ask) → slice_get (replicate n None) u ≡ Some (Some ask) → ⊥
none_marked zero u ask at = cc
none_marked (suc n) zero ask at = let clash : None ≡ Some ask = cc in cc
none_marked (suc n) (suc u) ask at = none_marked n u ask at

module _ (checked : Checked) (seed bound : ℕ) (members : List Member) where
  abbrev cells : List CellInfo
  cells = checked.tables.atomics

  no_reply : CreatedAreFew (init_entries cells)
  no_reply u i thread at = let none : slice_get [] i ≡ Some (Created thread) = subst (λ (rs : List Reply). slice_get rs i ≡ Some (Created thread)) (init_replies 0 u cells) at in cc

  no_create : CreatesAreNamed (signatures_in checked.program.items) (events_of (init_entries cells))
  no_create i e at = let none : slice_get [] i ≡ Some e = subst (λ (es : List Event). slice_get es i ≡ Some e) (init_named 0 cells) at in cc

  pub at_start : (m : Execution) → m ≡ opened checked seed bound → length members ≡ thread_limit → ((u : ℕ) (member : Member) → slice_get members u ≡ Some member → IsWaiting checked.program member [])
      → IsAt checked m members
  at_start m is count waiting = subst (λ (x : Execution). IsAt checked x members) (sym is) (record {
    setting = refl;
    mutexes = refl;
    words = 0;
    way = begins;
    drawn = refl;
    unmarked = λ u ask at. none_marked thread_limit u ask at;
    steps = omega (arith, init_steps 0 cells);
    named = no_create;
    told = no_reply;
    few = λ none. omega (arith, init_created 0 cells);
    waiting = λ none. record { count = count; each = λ u member get going. subst (IsWaiting checked.program member) (sym (init_replies 0 u cells)) (waiting u member get) };
  })

-- ---- the end

-- where no verdict is kept, the steps give none
pub undecided : (m : Execution) → IsStanding m → m.verdict ≡ None → StepVerdict m.bound m.history None
undecided m (waits.by_steps s) none = subst (StepVerdict m.bound m.history) none s
undecided m (waits.by_marks s all is) none = let clash : Some Deadlock ≡ None = sym is ∙ none in cc

module _ (checked : Checked) (m : Execution) (members : List Member) (at : IsAt checked m members) (seed bound : ℕ) (seeded : m.seed ≡ seed) (bounded : m.bound ≡ bound) where
  ends : (v : Verdict) → VerdictOf (next_of (program_of checked) m.history) m.bound m.history (Some v) → OneRun Offered (program_of checked) seed bound m.history v
  ends v verdict = subst (λ (p : ℕ × ℕ). OneRun Offered (program_of checked) p.0 p.1 m.history v) (λ i. (seeded i, bounded i)) (record { words = at.words; way = at.way; ends = verdict })

  -- with the verdict that is kept
  pub ends_kept : (v : Verdict) → m.verdict ≡ Some v → IsStanding m → OneRun Offered (program_of checked) seed bound m.history v
  ends_kept v kept (waits.by_steps s) = ends v (by_steps (subst (StepVerdict m.bound m.history) kept s))
  ends_kept v kept (waits.by_marks s all is) =
      let both : Some Deadlock ≡ Some v = sym is ∙ kept in
      let same : Deadlock ≡ v = cc in
      subst (OneRun Offered (program_of checked) seed bound m.history) same (ends Deadlock (by_deadlock s (λ u live. absurd (at.unmarked u (all u live).ask (all u live).mark))))

  -- where no thread can go
  pub ends_stuck : AsksAreLegal → (xs : List ℕ) → m.verdict ≡ None → IsStanding m → IsRisingList (GoesOn (events_of m.history) members) xs → length xs ≡ 0 → OneRun Offered (program_of checked) seed bound m.history Deadlock
  ends_stuck law [] none stands rising empty = ends Deadlock (by_deadlock (undecided m stands none) (stuck law checked m members at none rising))
  ends_stuck law (x ∷ xs) none stands rising empty = absurd (omega arith)
