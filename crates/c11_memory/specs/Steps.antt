-- What a step adds.
use Rattle.std.specs.Prelude.{ℕ, ◌≡◌, ◌<◌, ◌+◌, ⊤, [], ◌∷◌, ◌++◌, Some, None, MatchOption, length, slice_get, slice_set}
use Rattle.c11_events.specs.declared.entry.Entry.{Entry}
use Rattle.c11_events.specs.declared.op.Ask.{Ask}
use Rattle.c11_events.specs.declared.reply.Reply.{Reply}
use Rattle.c11_events.specs.Draws.{chosen, words_for}
use Rattle.c11_events.specs.EventOf.{events_of}
use Rattle.c11_events.specs.Offered.{Offered, op_cell}
use Rattle.c11_events.specs.Replies.{thread_limit}
use Rattle.c11_events.specs.Steps.{IsStep}
use Rattle.c11_events.specs.Threads.{IsLive, blocked_by}
use Rattle.c11_events.specs.Verdicts.{StepVerdict}
use Rattle.c11_memory.specs.Execution.{Execution, HasDrawn, IsWithin}

-- the thread may make its next step with what it asks for
pub record CanStep (m : Execution) (thread : ℕ) (ask : Ask) : Type 0 where
  pub below : thread < thread_limit
  pub within : IsWithin m ask.op
  pub live : m.verdict ≡ None → IsLive (events_of m.history) thread
  pub free : m.verdict ≡ None → blocked_by (events_of m.history) thread ask.op ≡ None

-- the next entry of the history is the thread's step, whatever chose what it reads; the verdict is the one that it or the bound
-- gives; the thread is marked no more; the program, the seed and the bound stay
pub record AddsEntry (old new : Execution) (thread : ℕ) (ask : Ask) (entry : Entry) : Type 0 where
  pub history : new.history ≡ old.history ++ entry ∷ []
  pub step : IsStep Offered old.setting old.history thread ask entry
  pub verdict : StepVerdict old.bound new.history new.verdict
  pub marks : new.marks ≡ slice_set old.marks thread None
  pub setting : new.setting ≡ old.setting
  pub mutexes : new.mutexes ≡ old.mutexes
  pub seed : new.seed ≡ old.seed
  pub bound : new.bound ≡ old.bound

-- what is read is the member of the offers at the next draw of the seed, and no other word is used
abbrev pub IsDrawn : Execution → Execution → Ask → Entry → Type 0
IsDrawn old new ask entry = (words : ℕ) → HasDrawn old words
    → MatchOption (op_cell ask.op) ⊤ (λ _. slice_get entry.offered (chosen old.seed words (length entry.offered)) ≡ Some entry.from)
    × HasDrawn new (words + words_for (length entry.offered))

-- the thread makes its next step, which reads the drawn member of its offers
pub record AddsStep (old new : Execution) (thread : ℕ) (ask : Ask) (reply : Reply) : Type 0 where
  pub entry : Entry
  pub adds : AddsEntry old new thread ask entry
  pub drawn : IsDrawn old new ask entry
  pub told : entry.reply ≡ reply

-- the thread makes its next step, which reads this store; no word is used
pub record AddsStepFrom (old new : Execution) (thread : ℕ) (ask : Ask) (from : ℕ) (reply : Reply) : Type 0 where
  pub entry : Entry
  pub adds : AddsEntry old new thread ask entry
  pub read : entry.from ≡ from
  pub undrawn : new.generator ≡ old.generator
  pub told : entry.reply ≡ reply
