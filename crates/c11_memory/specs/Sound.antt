-- What is kept of an execution, and what each step does to it.
use Rattle.std.specs.Prelude.{ℕ, ◌≡◌, ◌<◌, ◌≤◌, ◌+◌, false, List, Option, Some, None, length, map, nat_eq, if◌then◌else◌}
use Rattle.std.specs.Option.{option_map}
use Rattle.rand_pcg.specs.Lcg.{Lcg}
use Rattle.c11_events.specs.declared.entry.Entry.{Entry}
use Rattle.c11_events.specs.declared.op.Ask.{Ask}
use Rattle.c11_events.specs.declared.reply.Reply.{Reply}
use Rattle.c11_events.specs.declared.verdict.Verdict.{Verdict}
use Rattle.c11_events.specs.declared.verdict.Verdict.TheVariants.{Bound, Race as raced}
use Rattle.c11_events.specs.EventOf.{events_of}
use Rattle.c11_events.specs.Replies.{thread_limit}
use Rattle.c11_events.specs.Steps.{step_count}
use Rattle.c11_events.specs.Threads.{created}
use Rattle.c11_history.specs.declared.history.Race.{Race}
use Rattle.c11_history.specs.Past.{Past}
use Rattle.c11_memory.specs.declared.marks.Mark.{Mark}
use Rattle.c11_memory.specs.Execution.{Execution}
use Rattle.c11_memory.specs.Marks.{ask_of, AreWithin}
use Rattle.c11_memory.specs.Steps.{AddsEntry}
use Rattle.c11_memory.specs.Waits.{IsStanding}

abbrev pub asks_of : List (Option Mark) → List (Option Ask)
asks_of marks = map (option_map ask_of) marks

-- the execution of these parts
abbrev pub execution : Past → ℕ → ℕ → Lcg → Option Verdict → List (Option Mark) → Execution
execution past seed bound generator verdict marks = record {
  setting = past.setting;
  mutexes = past.mutexes;
  seed = seed;
  bound = bound;
  generator = generator;
  history = past.entries;
  verdict = verdict;
  marks = asks_of marks;
}

-- a history that goes on: nothing raced, and each thread has a mark
pub record GoesOn (past : Past) : Type 0 where
  pub quiet : past.raced ≡ false
  pub few_threads : created (events_of past.entries) < thread_limit

-- what holds of the parts of an execution
pub record IsSound (m : Execution) (past : Past) (steps : ℕ) (marks : List (Option Mark)) : Type 0 where
  pub few_steps : m.bound ≤ 10000
  pub counted : steps ≡ step_count past.entries
  pub room : past.room + steps ≡ m.bound
  pub each_thread : length marks ≡ thread_limit
  pub within : AreWithin past marks
  pub going : m.verdict ≡ None → GoesOn past
  pub stands : IsStanding m

-- the verdict after the entry of this number: by the race with it, else by what it says, else by the bound
abbrev pub ended : Option Race → ℕ → Option Verdict → ℕ → ℕ → Option Verdict
ended (Some race) number said steps bound = Some (raced race.first number race.cell)
ended None number (Some verdict) steps bound = Some verdict
ended None number None steps bound = if nat_eq steps bound then Some Bound else None

-- the thread makes its next step, which reads this store of these; no word is used
pub record Makes (old new : Execution) (thread : ℕ) (ask : Ask) (offered : List ℕ) (from : ℕ) (reply : Reply) : Type 0 where
  pub entry : Entry
  pub adds : AddsEntry old new thread ask entry
  pub offers : entry.offered ≡ offered
  pub read : entry.from ≡ from
  pub undrawn : new.generator ≡ old.generator
  pub told : entry.reply ≡ reply
