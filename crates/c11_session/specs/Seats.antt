-- Seats, and what the calls on them tell.
use Rattle.std.specs.Prelude.{ℕ, ◌≡◌, ◌+◌, ◌<◌, ◌⊎◌, Bool, true, false, List, [], ◌∷◌, ◌++◌, length, map, Option, Some, is_some, ⊤}
use mathlib.Core.List.{IsPrefix}
use Rattle.atomic_table.specs.Seated.{TableId}
use Rattle.c11_events.specs.declared.entry.Entry.{Entry}
use Rattle.c11_events.specs.declared.op.Ask.{Ask}
use Rattle.c11_events.specs.declared.reply.Holder.{Holder}
use Rattle.c11_events.specs.declared.reply.Reply.{Reply}
use Rattle.c11_events.specs.declared.verdict.Verdict.{Verdict}
use Rattle.c11_events.specs.EventOf.{events_of}
use Rattle.c11_events.specs.Replies.{thread_limit}
use Rattle.c11_events.specs.Steps.{is_init, own_steps, step_count}
use Rattle.c11_events.specs.Threads.{blocked_by}
use Rattle.c11_events.specs.Verdicts.{StepVerdict, VerdictOf}
use Rattle.c11_flat.specs.Code.{Whole, whole_of}
use Rattle.c11_machine.specs.Stands.{Standing, Stands}
use Rattle.c11_turn.specs.declared.terms.Terms.{Terms}
use Rattle.c11_turn.specs.Asking.{IsOver}
use Rattle.c11_turn.specs.Hand.{FollowsTerms, next_in, program_in}
use Rattle.c11_session.specs.declared.answer.Turn.{Turn}
use Rattle.c11_session.specs.declared.answer.Turn.TheVariants as turn
use Rattle.c11_session.specs.declared.front.Front.{Front}
use Rattle.c11_session.specs.declared.rule.Account.{Account}

-- what contracts see of a seat: its table; the program, the seed and the bound; its account in the table; its machine; whether what
-- its thread asks for is in hand; and whether it has answered that memory ran out
pub record Sitting : Type 0 where
  pub table : TableId
  pub terms : Terms
  pub account : Account
  pub machine : Standing
  pub has_ask : Bool
  pub short : Bool

-- the code of the session's program
abbrev pub code_in : Terms → Whole
code_in terms = whole_of terms.program.value.program

-- the replies that these entries had
abbrev pub replies_of : List Entry → List Reply
replies_of made = map (λ e. e.reply) made

-- what a thread of the session asks for after these entries of its own
abbrev pub asks_after : Terms → List Entry → Option Ask
asks_after terms made = (program_in terms).asks (replies_of made)

-- A seat takes part in one execution: what it has seen follows, the entries that it made are all the steps of its thread there, and
-- its machine stands for their replies.
pub record TakesPart (s : Sitting) : Type 0 where
  pub one : s.account.numbers ≡ s.machine.number ∷ []
  pub below : s.machine.number < thread_limit
  pub carried : s.account.terms ≡ Some s.terms
  pub follows : FollowsTerms s.terms s.account.seen
  pub own : own_steps s.account.seen s.machine.number ≡ s.account.made
  pub stands : Stands (code_in s.terms) s.machine (replies_of s.account.made)

-- what no call changes: the table, the program, the seed and the bound, and the number; what was seen before stays seen, and all of
-- it once the session was seen stopped
pub record Keeps (old new : Sitting) : Type 0 where
  pub table : new.table ≡ old.table
  pub terms : new.terms ≡ old.terms
  pub number : new.machine.number ≡ old.machine.number
  pub later : IsPrefix old.account.seen new.account.seen
  pub stays : old.account.stopped ≡ true → (new.account.stopped ≡ true) × (new.account.seen ≡ old.account.seen)

-- ---- look

-- one load, which tells the length of what was seen then, and whether the session was seen stopped
pub record Looks (old new : Sitting) (front : Front) : Type 0 where
  pub same : new ≡ record old { account = record old.account { seen = new.account.seen; stopped = new.account.stopped; loads = old.account.loads + 1 } }
  pub later : IsPrefix old.account.seen new.account.seen
  pub stays : old.account.stopped ≡ true → (new.account.stopped ≡ true) × (new.account.seen ≡ old.account.seen)
  pub long : front.length ≡ length new.account.seen
  pub stops : front.stopped ≡ new.account.stopped

-- ---- ask

-- The seat made exactly the last entry of what it has seen, which is what its thread asked for and has this reply. The session was
-- not stopped, and is now where the last entry or the bound gives a verdict.
pub record Goes (old new : Sitting) (reply : Reply) : Type 0 where
  pub entry : Entry
  pub made : new.account.made ≡ old.account.made ++ entry ∷ []
  pub before : List Entry
  pub last : new.account.seen ≡ before ++ entry ∷ []
  pub ask : Ask
  pub asked : asks_after old.terms old.account.made ≡ Some ask
  pub line : entry.line ≡ ask.line
  pub op : entry.op ≡ ask.op
  pub told : entry.reply ≡ reply
  pub of_thread : entry.thread ≡ old.machine.number
  pub step : is_init entry.op ≡ false
  pub was : old.account.stopped ≡ false
  pub verdict : Option Verdict
  pub stands : StepVerdict old.terms.bound new.account.seen verdict
  pub stops : new.account.stopped ≡ is_some verdict
  pub used : new.has_ask ≡ false

-- the seat made nothing; what its thread asks for is blocked by this holder in what it has seen, which has this length; the session
-- was not stopped, and is not
pub record Waits (old new : Sitting) (holder : Holder) (count : ℕ) : Type 0 where
  pub made : new.account.made ≡ old.account.made
  pub long : length new.account.seen ≡ count
  pub ask : Ask
  pub asked : asks_after old.terms old.account.made ≡ Some ask
  pub blocked : blocked_by (events_of new.account.seen) old.machine.number ask.op ≡ Some holder
  pub was : old.account.stopped ≡ false
  pub goes_on : new.account.stopped ≡ false
  pub kept : new.has_ask ≡ old.has_ask
  pub may_go_on : new.account.given_up ≡ false
  pub waited : new.account.waited ≡ step_count new.account.seen + 1

-- the seat made nothing; this is the verdict of what it has seen, and it has seen the session stopped
pub record Stops (old new : Sitting) (v : Verdict) : Type 0 where
  pub made : new.account.made ≡ old.account.made
  pub verdict : VerdictOf (next_in old.terms new.account.seen) old.terms.bound new.account.seen (Some v)
  pub stopped : new.account.stopped ≡ true
  pub for_good : new.account.given_up ≡ true
  pub kept : new.has_ask ≡ old.has_ask

-- the seat made nothing; it had been out of memory, or the session was not stopped
pub record RunsShort (old new : Sitting) : Type 0 where
  pub made : new.account.made ≡ old.account.made
  pub was : (old.short ≡ true) ⊎ (old.account.stopped ≡ false)
  pub for_good : new.account.given_up ≡ true
  pub kept : new.has_ask ≡ old.has_ask

-- what each answer tells
abbrev pub Tells : Sitting → Sitting → Turn → Type 0
Tells old new turn.Ended = ⊥
Tells old new (turn.Went reply) = Goes old new reply
Tells old new (turn.Waits holder count) = Waits old new holder count
Tells old new (turn.Stopped v) = Stops old new v
Tells old new turn.NoMemory = RunsShort old new

-- the tickets drawn and the loads made for it
abbrev pub Counts : Account → Account → Turn → Type 0
Counts old new turn.Ended = ⊤
Counts old new (turn.Went reply) = new.drawn ≡ old.drawn + 1
Counts old new (turn.Waits holder count) = old.loads < new.loads
Counts old new (turn.Stopped v) = ⊤
Counts old new turn.NoMemory = ⊤

-- whether an answer says that memory ran out
abbrev pub says_short : Turn → Bool
says_short turn.NoMemory = true
says_short _ = false

-- An answer that stays. A seat that was told the verdict, or that memory ran out, takes no turn any more, and nothing of it changes: so it
-- is told the same. One that waits draws no ticket where nothing was added and the session is not stopped, and gives up nothing: so it is
-- told again that it waits.
pub record Again (old new : Sitting) : Type 0 where
  pub for_good : old.account.given_up ≡ true → new ≡ old
  pub waits : old.account.given_up ≡ false → old.account.waited ≡ step_count old.account.seen + 1 → new.account.seen ≡ old.account.seen → new.account.stopped ≡ false
      → (new.account.drawn ≡ old.account.drawn) × (new.account.given_up ≡ false)

-- what the thread asks for is in hand, or the thread is over
abbrev pub MayAsk : Sitting → Type 0
MayAsk s = (IsOver s.account.made → ⊥) → s.has_ask ≡ true

-- the answers: Ended exactly where the thread is over, and then nothing changed
abbrev pub Answers : Sitting → Sitting → Turn → Type 0
Answers old new turn.Ended = IsOver old.account.made × (new ≡ old)
Answers old new answer = (IsOver old.account.made → ⊥) × Tells old new answer × Counts old.account new.account answer × (new.short ≡ says_short answer)

-- ---- advance

-- The thread's local work: nothing changed but its machine, whose number stays, and whether what it asks for is in hand; and nothing
-- at all where that was so before, or the thread is over.
pub record Advances (old new : Sitting) : Type 0 where
  pub same : new ≡ record old { machine = new.machine; has_ask = new.has_ask }
  pub number : new.machine.number ≡ old.machine.number
  pub rests : MayAsk old → new ≡ old

-- memory ran out in it: the thread is not over, and what it asks for is still not in hand
pub record StopsShort (old new : Sitting) : Type 0 where
  pub goes_on : IsOver old.account.made → ⊥
  pub was : old.has_ask ≡ false
  pub is : new.has_ask ≡ false
