-- What the marks of threads stand for.
use Rattle.std.specs.Prelude.{ℕ, ◌≡◌, ⊤, List, Option, Some, IsSome, slice_get}
use Rattle.c11_events.specs.declared.event.Event.{Event}
use Rattle.c11_events.specs.declared.op.Ask.{Ask}
use Rattle.c11_events.specs.declared.op.Op.{Op}
use Rattle.c11_events.specs.declared.op.Op.TheVariants.{Lock, Join, Begin}
use Rattle.c11_events.specs.Threads.{blocked_by}
use Rattle.c11_history.specs.Past.{Past, IsWithin}
use Rattle.c11_memory.specs.declared.marks.Awaited.{Awaited}
use Rattle.c11_memory.specs.declared.marks.Awaited.TheVariants.{Mutex, Thread, Birth}
use Rattle.c11_memory.specs.declared.marks.Mark.{Mark}

abbrev pub op_awaiting : Awaited → Op
op_awaiting (Mutex mutex) = Lock mutex
op_awaiting (Thread thread) = Join thread
op_awaiting Birth = Begin

-- what the thread asked for
abbrev pub ask_of : Mark → Ask
ask_of mark = record { line = mark.line; op = op_awaiting mark.awaits }

-- the operation is of the kinds that may be blocked
abbrev pub IsAwaiting : Op → Type 0
IsAwaiting (Lock mutex) = ⊤
IsAwaiting (Join thread) = ⊤
IsAwaiting Begin = ⊤
IsAwaiting _ = ⊥

-- what each mark awaits is of the program
abbrev pub AreWithin : Past → List (Option Mark) → Type 0
AreWithin past marks = (thread : ℕ) (mark : Mark) → slice_get marks thread ≡ Some (Some mark) → IsWithin past.setting past.mutexes (ask_of mark).op

-- the thread is marked with what is still blocked
pub record IsStuck (events : List Event) (marks : List (Option Mark)) (thread : ℕ) : Type 0 where
  pub mark : Mark
  pub is : slice_get marks thread ≡ Some (Some mark)
  pub blocked : IsSome (blocked_by events thread (ask_of mark).op)
