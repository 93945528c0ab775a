-- How a run stands.
use Rattle.std.specs.Prelude.{ℕ, ◌≡◌, ◌≢◌, List, [], ◌∷◌, Option, Some, None, length, nat_eq, IsSome, if◌then◌else◌}
use Rattle.c11_events.specs.declared.op.Op.{Op}
use Rattle.c11_events.specs.declared.op.Op.TheVariants.{End, Stop}
use Rattle.c11_events.specs.declared.op.Ask.{Ask}
use Rattle.c11_events.specs.declared.op.StopKind.{StopKind}
use Rattle.c11_events.specs.declared.op.StopKind.TheVariants as stop
use Rattle.c11_events.specs.declared.reply.Reply.{Reply}
use Rattle.c11_events.specs.declared.reply.Reply.TheVariants as reply
use Rattle.c11_events.specs.declared.reply.FaultKind.TheVariants as fault
use Rattle.c11_events.specs.declared.verdict.Verdict.{Verdict}
use Rattle.c11_events.specs.declared.verdict.Verdict.TheVariants.{Done, Bound, Race, Assert, Fault, Local, Deadlock}
use Rattle.c11_events.specs.declared.entry.Entry.{Entry}
use Rattle.c11_events.specs.EventOf.{events_of}
use Rattle.c11_events.specs.Races.{IsRacing}
use Rattle.c11_events.specs.Steps.{step_count}
use Rattle.c11_events.specs.Threads.{blocked_by, IsLive}

abbrev pub stop_verdict : StopKind → Verdict
stop_verdict stop.Assert = Assert
stop_verdict stop.Local = Local
stop_verdict stop.Overflow = Fault fault.Overflow
stop_verdict stop.Divide = Fault fault.Divide
stop_verdict stop.Shift = Fault fault.Shift
stop_verdict stop.Bounds = Fault fault.Bounds
stop_verdict stop.Depth = Fault fault.Depth

-- what the operation of the thread ends the run with
abbrev pub op_verdict : ℕ → Op → Option Verdict
op_verdict thread (Stop kind) = Some (stop_verdict kind)
op_verdict thread (End value) = if nat_eq thread 0 then Some Done else None
op_verdict thread _ = None

-- the same, with its reply
abbrev pub step_verdict : ℕ → Op → Reply → Option Verdict
step_verdict thread op (reply.Fault kind) = Some (Fault kind)
step_verdict thread op _ = op_verdict thread op

-- what the last entry says by its operation and reply
abbrev pub last_says : List Entry → Option Verdict
last_says [] = None
last_says (e ∷ []) = step_verdict e.thread e.op e.reply
last_says (e ∷ f ∷ more) = last_says (f ∷ more)

-- what the last entry ends the run with: a race with it, and without one what it says
pub data LastVerdict (entries : List Entry) : Option Verdict → Type 0 where
  race : {cell m : ℕ} → IsRacing (events_of entries) cell (length entries) m → LastVerdict entries (Some (Race m (length entries) cell))
  no_race : ((cell m : ℕ) → IsRacing (events_of entries) cell (length entries) m → ⊥) → LastVerdict entries (last_says entries)

-- the thread's next operation is blocked
pub record IsStuck (next : ℕ → Option Ask) (entries : List Entry) (thread : ℕ) : Type 0 where
  pub ask : Ask
  pub is_next : next thread ≡ Some ask
  pub blocked : IsSome (blocked_by (events_of entries) thread ask.op)

-- the thread is live and its next operation is not blocked
pub record IsEnabled (next : ℕ → Option Ask) (entries : List Entry) (thread : ℕ) : Type 0 where
  pub live : IsLive (events_of entries) thread
  pub ask : Ask
  pub is_next : next thread ≡ Some ask
  pub free : blocked_by (events_of entries) thread ask.op ≡ None

-- how the run stands by its steps alone: by what the last entry ends it with, else by the bound
pub data StepVerdict (bound : ℕ) (entries : List Entry) : Option Verdict → Type 0 where
  by_last : {v : Verdict} → LastVerdict entries (Some v) → StepVerdict bound entries (Some v)
  by_bound : LastVerdict entries None → step_count entries ≡ bound → StepVerdict bound entries (Some Bound)
  undecided : LastVerdict entries None → step_count entries ≢ bound → StepVerdict bound entries None

-- how the run stands, with the next operation of each thread: by its steps, else a deadlock where each live thread is stuck, and
-- none where a thread can go on (one of the two holds wherever each live thread asks for something, as in each program)
pub data VerdictOf (next : ℕ → Option Ask) (bound : ℕ) (entries : List Entry) : Option Verdict → Type 0 where
  by_steps : {v : Verdict} → StepVerdict bound entries (Some v) → VerdictOf next bound entries (Some v)
  by_deadlock : StepVerdict bound entries None → ((thread : ℕ) → IsLive (events_of entries) thread → IsStuck next entries thread)
      → VerdictOf next bound entries (Some Deadlock)
  goes_on : {thread : ℕ} → StepVerdict bound entries None → IsEnabled next entries thread → VerdictOf next bound entries None
