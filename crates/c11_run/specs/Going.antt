-- Where a run stands.
use Rattle.std.specs.Prelude.{ℕ, ◌≡◌, ◌+◌, ◌<◌, ◌≤◌, false, List, [], Some, None, length, filter, slice_get}
use Rattle.c11_ast.specs.declared.item.Program.{Program}
use Rattle.c11_check.specs.declared.checked.Checked.{Checked}
use Rattle.c11_check.specs.declared.entity.Signature.{Signature}
use Rattle.c11_check.specs.Lies.{signatures_in}
use Rattle.c11_events.specs.declared.entry.Entry.{Entry}
use Rattle.c11_events.specs.declared.event.Event.{Event}
use Rattle.c11_events.specs.declared.event.EventKind.{EventKind}
use Rattle.c11_events.specs.declared.event.EventKind.TheVariants.{Create}
use Rattle.c11_events.specs.declared.op.Ask.{Ask}
use Rattle.c11_events.specs.declared.reply.Reply.{Reply}
use Rattle.c11_events.specs.declared.reply.Reply.TheVariants.{Created}
use Rattle.c11_events.specs.Draws.{after_words, chosen, words_for}
use Rattle.c11_events.specs.EventOf.{events_of}
use Rattle.c11_events.specs.Events.{is_create}
use Rattle.c11_events.specs.Offered.{Offered}
use Rattle.c11_events.specs.Replies.{thread_limit}
use Rattle.c11_events.specs.Steps.{own_replies, step_count}
use Rattle.c11_events.specs.Threads.{IsLive, blocked_by, created, has_ended}
use Rattle.c11_flat.specs.Code.{whole_of}
use Rattle.c11_machine.specs.Programs.{program_of}
use Rattle.c11_machine.specs.Runs.{OnTheWay}
use Rattle.c11_machine.specs.Stands.{Stands}
use Rattle.c11_meaning.specs.Asks.{asks_of}
use Rattle.c11_memory.specs.Execution.{Execution, HasDrawn, IsWithin}
use Rattle.c11_memory.specs.Steps.{AddsStep}
use Rattle.c11_run.specs.declared.team.Member.{Member}

-- ---- threads

-- the thread was told these replies, and wants what the program asks for after them
pub record IsWaiting (program : Program) (member : Member) (replies : List Reply) : Type 0 where
  pub stands : Stands (whole_of program) member.thread replies
  pub asks : asks_of program replies ≡ Some member.ask
  pub taken : member.thread.config.state.replies ≡ []

-- all threads that there may be; each that has not ended was told the replies of the history
pub record AreWaiting (program : Program) (members : List Member) (entries : List Entry) : Type 0 where
  pub count : length members ≡ thread_limit
  pub each : (u : ℕ) (member : Member) → slice_get members u ≡ Some member → has_ended (events_of entries) u ≡ false → IsWaiting program member (own_replies entries u)

-- the thread is live, and what it wants is not blocked
abbrev pub CanGo : List Event → ℕ → Ask → Type 0
CanGo events thread ask = IsLive events thread × (blocked_by events thread ask.op ≡ None)

-- the thread is one of these, and can go
abbrev pub GoesOn : List Event → List Member → ℕ → Type 0
GoesOn events members thread = (member : Member) × (slice_get members thread ≡ Some member) × CanGo events thread member.ask

-- what the live threads want names what the program has
abbrev pub AreWithin : Execution → List Member → Type 0
AreWithin m members = (u : ℕ) (member : Member) → slice_get members u ≡ Some member → IsLive (events_of m.history) u → IsWithin m member.ask.op

-- the execution m became n: the thread at the drawn place among these made its step, and was told this
pub record IsTurn (m n : Execution) (members : List Member) (threads : List ℕ) (words thread : ℕ) (reply : Reply) : Type 0 where
  pub member : Member
  pub get : slice_get members thread ≡ Some member
  pub place : slice_get threads (chosen m.seed words (length threads)) ≡ Some thread
  pub adds : AddsStep (record m { generator = after_words m.seed (words + words_for (length threads)) }) n thread member.ask reply

-- ---- the run

-- it is a Create of a function that is there
abbrev pub NamesFunction : List Signature → EventKind → Type 0
NamesFunction functions (Create function argument) = (signature : Signature) × (slice_get functions function ≡ Some signature)
NamesFunction functions _ = ⊥

-- each Create names a function that is there
abbrev pub CreatesAreNamed : List Signature → List Event → Type 0
CreatesAreNamed functions events = (i : ℕ) (e : Event) → slice_get (filter (λ (e : Event). is_create e.kind) events) i ≡ Some e → NamesFunction functions e.kind

-- no thread was told of a thread past the limit
abbrev pub CreatedAreFew : List Entry → Type 0
CreatedAreFew entries = (u i thread : ℕ) → slice_get (own_replies entries u) i ≡ Some (Created thread) → thread < thread_limit

-- the execution is on the way of the one run, and no thread is marked; without a verdict each thread waits for its next step
pub record IsAt (checked : Checked) (m : Execution) (members : List Member) : Type 0 where
  pub setting : m.setting ≡ (program_of checked).setting
  pub mutexes : m.mutexes ≡ length checked.tables.mutexes
  pub words : ℕ
  pub way : OnTheWay Offered (program_of checked) m.seed m.bound words m.history
  pub drawn : HasDrawn m words
  pub unmarked : (u : ℕ) (ask : Ask) → slice_get m.marks u ≡ Some (Some ask) → ⊥
  pub steps : step_count m.history ≤ m.bound
  pub named : CreatesAreNamed (signatures_in checked.program.items) (events_of m.history)
  pub told : CreatedAreFew m.history
  pub few : m.verdict ≡ None → created (events_of m.history) < thread_limit
  pub waiting : m.verdict ≡ None → AreWaiting checked.program members m.history
