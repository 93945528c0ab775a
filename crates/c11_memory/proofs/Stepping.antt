-- An execution after a step.
use Rattle.std.proofs.Common.{◌≡◌, ℕ, ◌+◌, ◌-◌, ◌<◌, false, is_some, List, [], ◌∷◌, ◌++◌, Option, None, length, slice_set, refl, sym, ap, ◌∙◌, subst, arith, length-append}
use Rattle.std.proofs.Math.ListN.{length-set}
use Rattle.std.proofs.lemmas.List.{map-set}
use Rattle.std.specs.Option.{option_map}
use Rattle.rand_pcg.specs.Lcg.{Lcg}
use Rattle.c11_events.specs.declared.event.Event.{Event}
use Rattle.c11_events.specs.declared.entry.Entry.{Entry}
use Rattle.c11_events.specs.declared.op.Ask.{Ask}
use Rattle.c11_events.specs.declared.op.Op.{Op}
use Rattle.c11_events.specs.declared.op.Op.TheVariants as op
use Rattle.c11_events.specs.declared.verdict.Verdict.{Verdict}
use Rattle.c11_events.specs.EventOf.{event_of, events_of, kind_of}
use Rattle.c11_events.specs.Offered.{Offered}
use Rattle.c11_events.specs.Replies.{Setting, thread_limit}
use Rattle.c11_events.specs.Steps.{IsStep, is_init, step_count}
use Rattle.c11_events.specs.Threads.{created}
use Rattle.c11_events.specs.Verdicts.{last_says, step_verdict, StepVerdict}
use Rattle.c11_events.proofs.Histories.{events_of-append}
use Rattle.c11_history.specs.declared.history.Race.{Race}
use Rattle.c11_history.specs.Past.{Past, IsRaceOfLast, IsWithin}
use Rattle.c11_memory.specs.declared.marks.Mark.{Mark}
use Rattle.c11_memory.specs.Execution.{Execution}
use Rattle.c11_memory.specs.Marks.{ask_of}
use Rattle.c11_memory.specs.Sound.{ended, execution, GoesOn, IsSound, Makes}
use Rattle.c11_memory.specs.Waits.{IsStanding, by_marks, by_steps}
use Rattle.c11_memory.proofs.Lengthened.{count_more, ended_none, few_more, going, says_last, stands_ended}
use Rattle.c11_memory.proofs.Sticking.{within_cleared}

-- the history with the entry, which raced or not
abbrev pub longer : Past → Entry → Option Race → Past
longer past e race = record past { entries = past.entries ++ e ∷ []; room = past.room - 1; raced = is_some race }

not_init : (setting : Setting) (mutexes : ℕ) (o : Op) → IsWithin setting mutexes o → is_init o ≡ false
not_init setting mutexes (op.Init cell value) within = absurd within
not_init setting mutexes _ within = refl

pub stands_by_steps : (m : Execution) → IsStanding m → m.verdict ≡ None → StepVerdict m.bound m.history None
stands_by_steps m (by_steps s) none = subst (λ (v : Option Verdict). StepVerdict m.bound m.history v) none s
stands_by_steps m (by_marks s stuck is) none = s

-- there is room for a step more where no verdict is kept
pub has_room : (m : Execution) (past : Past) (steps : ℕ) (marks : List (Option Mark)) → m.history ≡ past.entries → IsSound m past steps marks → m.verdict ≡ None → 0 < past.room
has_room m past steps marks same sound none =
    let differ = going m.bound m.history None (stands_by_steps m sound.stands none) refl in
    let count : step_count m.history ≡ step_count past.entries = ap step_count same in
    omega (arith, sound.room, sound.counted)

-- what makes the entry the next, and the verdict the one that is due
pub record IsTaken (past : Past) (bound steps thread : ℕ) (ask : Ask) (e : Entry) (race : Option Race) (verdict : Option Verdict) : Type 0 where
  pub within : IsWithin past.setting past.mutexes ask.op
  pub step : IsStep Offered past.setting past.entries thread ask e
  pub found : IsRaceOfLast (events_of (past.entries ++ e ∷ [])) race
  pub due : verdict ≡ ended race e.number (step_verdict thread ask.op e.reply) (steps + 1) bound

module _ (past : Past) (seed bound : ℕ) (generator : Lcg) (steps : ℕ) (marks : List (Option Mark)) (sound : IsSound (execution past seed bound generator None marks) past steps marks)
    (thread : ℕ) (ask : Ask) (e : Entry) (race : Option Race) (verdict : Option Verdict) (taken : IsTaken past bound steps thread ask e race verdict) where
  counted : steps + 1 ≡ step_count (past.entries ++ e ∷ [])
  counted = omega (arith, sound.counted, count_more past.entries e (ap is_init taken.step.op ∙ not_init past.setting past.mutexes ask.op taken.within))

  number : e.number ≡ length (past.entries ++ e ∷ [])
  number = omega (arith, taken.step.number, length-append past.entries (e ∷ []))

  says : last_says (past.entries ++ e ∷ []) ≡ step_verdict thread ask.op e.reply
  says = says_last past.entries e ∙ ap (λ (p : ℕ × Op). step_verdict p.0 p.1 e.reply) (λ i. (taken.step.of_thread i, taken.step.op i))

  pub stands_taken : StepVerdict bound (past.entries ++ e ∷ []) verdict
  stands_taken =
      subst (λ (v : Option Verdict). StepVerdict bound (past.entries ++ e ∷ []) v) (sym taken.due)
      (stands_ended (past.entries ++ e ∷ []) e.number (steps + 1) bound counted race (step_verdict thread ask.op e.reply) number says taken.found)

  goes_on : verdict ≡ None → GoesOn (longer past e race)
  goes_on none =
      let parts = ended_none race e.number (step_verdict thread ask.op e.reply) (steps + 1) bound (sym taken.due ∙ none) in
      let few = few_more past.setting (events_of past.entries) thread ask.op e.from e.reply (event_of e) (ap (λ (o : Op). kind_of o e.reply) taken.step.op) taken.step.reply parts.1 (sound.going refl).few_threads in
      record {
        quiet = ap is_some parts.0;
        few_threads = subst (λ (es : List Event). created es < thread_limit) (sym (events_of-append past.entries (e ∷ []))) few;
      }

  pub sound_taken : IsSound (execution (longer past e race) seed bound generator verdict (slice_set marks thread None)) (longer past e race) (steps + 1) (slice_set marks thread None)
  sound_taken = record {
    few_steps = sound.few_steps;
    counted = counted;
    room = let some = has_room (execution past seed bound generator None marks) past steps marks refl sound refl in omega (arith, sound.room);
    each_thread = length-set marks thread None ∙ sound.each_thread;
    within = within_cleared past marks thread sound.within;
    going = goes_on;
    stands = by_steps stands_taken;
  }

  pub makes_taken : Makes (execution past seed bound generator None marks) (execution (longer past e race) seed bound generator verdict (slice_set marks thread None)) thread ask e.offered e.from e.reply
  makes_taken = record {
    entry = e;
    adds = record {
      history = refl;
      step = taken.step;
      verdict = stands_taken;
      marks = map-set (option_map ask_of) marks thread None;
      setting = refl;
      mutexes = refl;
      seed = refl;
      bound = refl;
    };
    offers = refl;
    read = refl;
    undrawn = refl;
    told = refl;
  }
