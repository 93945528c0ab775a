-- An execution after a thread is marked to wait.
use Rattle.std.proofs.Common.{◌≡◌, ℕ, List, Option, Some, None, slice_set, refl, sym, ap, ◌∙◌, subst}
use Rattle.std.proofs.Math.ListN.{length-set}
use Rattle.std.proofs.lemmas.List.{map-set}
use Rattle.std.specs.Option.{option_map}
use Rattle.rand_pcg.specs.Lcg.{Lcg}
use Rattle.c11_events.specs.declared.op.Ask.{Ask}
use Rattle.c11_events.specs.declared.verdict.Verdict.{Verdict}
use Rattle.c11_events.specs.declared.verdict.Verdict.TheVariants.{Deadlock}
use Rattle.c11_events.specs.Verdicts.{StepVerdict}
use Rattle.c11_history.specs.Past.{Past, IsWithin}
use Rattle.c11_memory.specs.declared.marks.Mark.{Mark}
use Rattle.c11_memory.specs.Execution.{Execution}
use Rattle.c11_memory.specs.Marks.{ask_of, AreWithin}
use Rattle.c11_memory.specs.Sound.{asks_of, execution, GoesOn, IsSound}
use Rattle.c11_memory.specs.Waits.{AllAreStuck, by_marks, by_steps, marked}
use Rattle.c11_memory.proofs.Stepping.{stands_by_steps}
use Rattle.c11_memory.proofs.Sticking.{within_marked}

-- the execution m of these parts, with no verdict, and the mark of what is asked for
pub record IsWaiting (m : Execution) (past : Past) (seed bound : ℕ) (generator : Lcg) (verdict : Option Verdict) (steps : ℕ) (marks : List (Option Mark)) (ask : Ask) (mark : Mark) : Type 0 where
  pub is : execution past seed bound generator verdict marks ≡ m
  pub sound : IsSound (execution past seed bound generator verdict marks) past steps marks
  pub none : m.verdict ≡ None
  pub within : IsWithin m.setting m.mutexes ask.op
  pub asked : ask_of mark ≡ ask

module _ (m : Execution) (past : Past) (seed bound : ℕ) (generator : Lcg) (verdict : Option Verdict) (steps : ℕ) (marks : List (Option Mark)) (thread : ℕ) (ask : Ask) (mark : Mark)
    (waits : IsWaiting m past seed bound generator verdict steps marks ask mark) where
  pub no_verdict : verdict ≡ None
  no_verdict = ap (λ (n : Execution). n.verdict) waits.is ∙ waits.none

  pub goes_on : GoesOn past
  goes_on = waits.sound.going no_verdict

  pub within_more : AreWithin past (slice_set marks thread (Some mark))
  within_more =
      let asked = subst (λ (n : Execution). IsWithin n.setting n.mutexes ask.op) (sym waits.is) waits.within in
      within_marked past marks thread mark waits.sound.within (subst (λ (a : Ask). IsWithin past.setting past.mutexes a.op) (sym waits.asked) asked)

  stands : StepVerdict bound past.entries None
  stands = stands_by_steps (execution past seed bound generator verdict marks) waits.sound.stands no_verdict

  pub sound_waiting : IsSound (execution past seed bound generator verdict (slice_set marks thread (Some mark))) past steps (slice_set marks thread (Some mark))
  sound_waiting = record {
    few_steps = waits.sound.few_steps;
    counted = waits.sound.counted;
    room = waits.sound.room;
    each_thread = length-set marks thread (Some mark) ∙ waits.sound.each_thread;
    within = within_more;
    going = waits.sound.going;
    stands = by_steps (subst (λ (v : Option Verdict). StepVerdict bound past.entries v) (sym no_verdict) stands);
  }

  pub sound_deadlocked : AllAreStuck (execution past seed bound generator (Some Deadlock) (slice_set marks thread (Some mark)))
      → IsSound (execution past seed bound generator (Some Deadlock) (slice_set marks thread (Some mark))) past steps (slice_set marks thread (Some mark))
  sound_deadlocked stuck = record {
    few_steps = waits.sound.few_steps;
    counted = waits.sound.counted;
    room = waits.sound.room;
    each_thread = length-set marks thread (Some mark) ∙ waits.sound.each_thread;
    within = within_more;
    going = λ none. cc;
    stands = by_marks stands stuck refl;
  }

  pub is_marked : (v : Option Verdict) → execution past seed bound generator v (slice_set marks thread (Some mark)) ≡ record (marked m thread ask) { verdict = v }
  is_marked v =
      let kept = map-set (option_map ask_of) marks thread (Some mark) ∙ ap (λ (a : Ask). slice_set (asks_of marks) thread (Some a)) waits.asked in
      let whole = execution past seed bound generator v marks in
      ap (λ (asks : List (Option Ask)). record whole { marks = asks }) kept ∙ ap (λ (n : Execution). record (marked n thread ask) { verdict = v }) waits.is
