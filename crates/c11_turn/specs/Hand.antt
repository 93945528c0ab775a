-- The memory of a session, and what a turn does to it.
use Rattle.std.specs.Prelude.{ℕ, ◌≡◌, ◌≤◌, ◌<◌, ◌+◌, false, List, [], ◌∷◌, ◌++◌, Option, Some, None, length, slice_get}
use Rattle.c11_check.specs.Scopes.{atomic_limit}
use Rattle.c11_events.specs.declared.entry.Entry.{Entry}
use Rattle.c11_events.specs.declared.op.Ask.{Ask}
use Rattle.c11_events.specs.declared.reply.Holder.{Holder}
use Rattle.c11_events.specs.declared.reply.Reply.{Reply}
use Rattle.c11_events.specs.declared.verdict.Verdict.{Verdict}
use Rattle.c11_events.specs.declared.verdict.Verdict.TheVariants.{Deadlock}
use Rattle.c11_events.specs.EventOf.{events_of}
use Rattle.c11_events.specs.Offered.{Offered}
use Rattle.c11_events.specs.Replies.{thread_limit}
use Rattle.c11_events.specs.Steps.{init_entries, is_init, step_count}
use Rattle.c11_events.specs.Threads.{IsLive, blocked_by}
use Rattle.c11_events.specs.Verdicts.{StepVerdict, VerdictOf}
use Rattle.c11_machine.specs.Programs.{program_of}
use Rattle.c11_machine.specs.Runs.{Follows, Program, choices_of, next_of}
use Rattle.c11_memory.specs.Execution.{Execution, HasDrawn, opened}
use Rattle.c11_memory.specs.Waits.{AllAreStuck, marked}
use Rattle.c11_turn.specs.declared.terms.Terms.{Terms}
use Rattle.c11_turn.specs.declared.turns.Turned.{Turned}
use Rattle.c11_turn.specs.declared.turns.Turned.TheVariants.{Went, Waits, Stopped, NoMemory}

-- the program of a session, as its runs take it
abbrev pub program_in : Terms → Program
program_in terms = program_of terms.program.value

-- what each thread asks for next, after its replies in the history
abbrev pub next_in : Terms → List Entry → ℕ → Option Ask
next_in terms history = next_of (program_in terms) history

-- the history follows the program, the seed and the bound
abbrev pub FollowsTerms : Terms → List Entry → Type 0
FollowsTerms terms history = Follows Offered (program_in terms) terms.seed terms.bound history

-- ---- the memory

-- The memory has this history. Its tables, seed and bound are those of the session, as many words were drawn as entries had a
-- choice, each mark is what its thread asks for, and a verdict that it keeps is that of the history.
pub record IsHome (terms : Terms) (history : List Entry) (memory : Execution) : Type 0 where
  pub entries : memory.history ≡ history
  pub setting : memory.setting ≡ (program_in terms).setting
  pub mutexes : memory.mutexes ≡ length terms.program.value.tables.mutexes
  pub seed : memory.seed ≡ terms.seed
  pub bound : memory.bound ≡ terms.bound
  pub drawn : HasDrawn memory (length (choices_of history))
  pub marks : (thread : ℕ) (ask : Ask) → slice_get memory.marks thread ≡ Some (Some ask) → next_in terms history thread ≡ Some ask
  pub verdict : (v : Verdict) → memory.verdict ≡ Some v → VerdictOf (next_in terms history) terms.bound history (Some v)

-- What is kept beside it. Where the memory keeps no verdict, neither the last step nor the bound gives one. The bound is small, which
-- the type of its number does not say inside a rule.
pub record IsReady (terms : Terms) (history : List Entry) (memory : Execution) : Type 0 where
  pub undecided : memory.verdict ≡ None → StepVerdict terms.bound history None
  pub few_steps : terms.bound ≤ 10000

-- the memory of a session with this history
pub record IsMemoryOf (terms : Terms) (history : List Entry) (memory : Execution) : Type 0 where
  pub home : IsHome terms history memory
  pub ready : IsReady terms history memory

-- the first memory is that of the Inits, and these follow
abbrev pub OpenedIsMemory : Type 0
OpenedIsMemory = (terms : Terms) → 0 < terms.bound → terms.bound ≤ 10000
    → IsMemoryOf terms (init_entries terms.program.value.tables.atomics) (opened terms.program.value terms.seed terms.bound)
    × FollowsTerms terms (init_entries terms.program.value.tables.atomics)

-- a history that follows has no more steps than the bound, and beside them 4,096 entries at most
abbrev pub HistoriesAreShort : Type 0
HistoriesAreShort = (terms : Terms) (history : List Entry) → FollowsTerms terms history → (step_count history ≤ terms.bound) × (length history ≤ atomic_limit + step_count history)

-- ---- the turn

-- the memory is that of a history that follows, and the thread asks for this next
pub record IsDue (terms : Terms) (memory : Execution) (thread : ℕ) (ask : Ask) : Type 0 where
  pub has : IsMemoryOf terms memory.history memory
  pub follows : FollowsTerms terms memory.history
  pub below : thread < thread_limit
  pub asked : next_in terms memory.history thread ≡ Some ask

-- the history gained one entry, the thread's step with this reply; the verdict is the one that it or the bound gives
pub record Goes (terms : Terms) (old new : Execution) (thread : ℕ) (ask : Ask) (reply : Reply) : Type 0 where
  pub none : old.verdict ≡ None
  pub entry : Entry
  pub gained : new.history ≡ old.history ++ entry ∷ []
  pub of_thread : entry.thread ≡ thread
  pub line : entry.line ≡ ask.line
  pub op : entry.op ≡ ask.op
  pub told : entry.reply ≡ reply
  pub step : is_init entry.op ≡ false
  pub verdict : StepVerdict terms.bound new.history new.verdict

-- No verdict was kept and none is; the thread is blocked, and nothing but its mark changed. One that is live is marked, and even then
-- not each live thread is stuck; one that is not created yet gets no mark.
pub record Blocks (old new : Execution) (thread : ℕ) (ask : Ask) (holder : Holder) (count : ℕ) : Type 0 where
  pub none : old.verdict ≡ None
  pub blocked : blocked_by (events_of old.history) thread ask.op ≡ Some holder
  pub long : count ≡ length old.history
  pub same : new ≡ record old { marks = new.marks }
  pub marks : IsLive (events_of old.history) thread → new ≡ marked old thread ask
  pub some_goes : IsLive (events_of old.history) thread → AllAreStuck new → ⊥
  pub unborn : (IsLive (events_of old.history) thread → ⊥) → new ≡ old

-- a verdict was kept, and nothing changed; or the thread's mark made a deadlock
pub data Ends (old new : Execution) (thread : ℕ) (ask : Ask) (v : Verdict) : Type 0 where
  before : old.verdict ≡ Some v → new ≡ old → Ends old new thread ask v
  by_mark : old.verdict ≡ None → v ≡ Deadlock → new ≡ record (marked old thread ask) { verdict = Some v } → Ends old new thread ask v

-- this verdict is kept, which is that of the history; nothing was added
pub record Stops (terms : Terms) (old new : Execution) (thread : ℕ) (ask : Ask) (v : Verdict) : Type 0 where
  pub ends : Ends old new thread ask v
  pub kept : new.verdict ≡ Some v
  pub entries : new.history ≡ old.history
  pub verdict : VerdictOf (next_in terms new.history) terms.bound new.history (Some v)

-- the thread could go, and nothing changed
pub record RunsShort (old new : Execution) (thread : ℕ) (ask : Ask) : Type 0 where
  pub none : old.verdict ≡ None
  pub free : blocked_by (events_of old.history) thread ask.op ≡ None
  pub same : new ≡ old

-- what the turn did
abbrev pub Does : Terms → Execution → Execution → ℕ → Ask → Turned → Type 0
Does terms old new thread ask (Went reply) = Goes terms old new thread ask reply
Does terms old new thread ask (Waits holder count) = Blocks old new thread ask holder count
Does terms old new thread ask (Stopped v) = Stops terms old new thread ask v
Does terms old new thread ask NoMemory = RunsShort old new thread ask

-- what a turn did, after which the memory is that of a history that follows
pub record IsTurn (terms : Terms) (old new : Execution) (thread : ℕ) (ask : Ask) (turned : Turned) : Type 0 where
  pub does : Does terms old new thread ask turned
  pub has : IsMemoryOf terms new.history new
  pub follows : FollowsTerms terms new.history
