-- What contracts see of an execution.
use Rattle.std.specs.Prelude.{ℕ, ◌≡◌, List, Option, None, length, replicate}
use Rattle.rand_pcg.specs.Lcg.{Lcg}
use Rattle.c11_check.specs.declared.checked.Checked.{Checked}
use Rattle.c11_events.specs.declared.entry.Entry.{Entry}
use Rattle.c11_events.specs.declared.op.Ask.{Ask}
use Rattle.c11_events.specs.declared.op.Op.{Op}
use Rattle.c11_events.specs.declared.verdict.Verdict.{Verdict}
use Rattle.c11_events.specs.Draws.{after_words}
use Rattle.c11_events.specs.Replies.{Setting, thread_limit}
use Rattle.c11_events.specs.Steps.{init_entries}
use Rattle.c11_history.specs.Past as past
use Rattle.c11_history.specs.Past.{setting_of}

-- its program: what the memory model takes from it, and how many mutexes it has; the seed, the bound on steps, and how far the words
-- of the seed are drawn; the history, the verdict that is kept, and for each thread the operation that it is marked to wait with
pub record Execution : Type 0 where
  pub setting : Setting
  pub mutexes : ℕ
  pub seed : ℕ
  pub bound : ℕ
  pub generator : Lcg
  pub history : List Entry
  pub verdict : Option Verdict
  pub marks : List (Option Ask)

-- an execution before its first step
abbrev pub opened : Checked → ℕ → ℕ → Execution
opened checked seed bound = record {
  setting = setting_of checked;
  mutexes = length checked.tables.mutexes;
  seed = seed;
  bound = bound;
  generator = after_words seed 0;
  history = init_entries checked.tables.atomics;
  verdict = None;
  marks = replicate thread_limit None;
}

-- so many words of the seed were drawn
abbrev pub HasDrawn : Execution → ℕ → Type 0
HasDrawn m words = m.generator ≡ after_words m.seed words

-- the operation is no Init, and its cells, mutexes and threads are those of the program
abbrev pub IsWithin : Execution → Op → Type 0
IsWithin m = past.IsWithin m.setting m.mutexes
