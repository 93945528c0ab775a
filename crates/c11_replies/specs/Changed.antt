-- How an event changes what is kept.
use Rattle.std.specs.Prelude.{ℕ, ◌≡◌, ◌+◌, true, List, Option, Some, None, length, slice_get, nat_eq, if◌then◌else◌}
use Rattle.c11_num.specs.Ranges.{TypedNumber}
use Rattle.c11_events.specs.declared.event.EventKind.{EventKind}
use Rattle.c11_events.specs.declared.event.EventKind.TheVariants.{PlainWrite, MutexInit, Lock, TryLock, Unlock, Create, End, Join}
use Rattle.c11_events.specs.declared.reply.Reply.TheVariants.{Began}
use Rattle.c11_replies.specs.declared.threads.ThreadState.{ThreadState}
use Rattle.c11_replies.specs.declared.mutexes.MutexState.{MutexState}

-- the new list is the old one with each value changed in this way, by its place
pub record AreChanged {X : Type 0} (change : ℕ → X → X) (old new : List X) : Type 0 where
  pub count : length new ≡ length old
  pub each : (i : ℕ) (x : X) → slice_get old i ≡ Some x → slice_get new i ≡ Some (change i x)

-- the thread u after an event of the thread actor, where so many threads were created before
abbrev pub thread_next : ℕ → ℕ → EventKind → ℕ → ThreadState → ThreadState
thread_next created actor (Create function argument) u state = if nat_eq (created + 1) u then record state { told = Began function argument } else state
thread_next created actor (End value) u state = if nat_eq actor u then record state { ended = Some value } else state
thread_next created actor (Join thread) u state = if nat_eq thread u then record state { joined = true } else state
thread_next created actor _ u state = state

-- who holds a mutex once the thread has asked for it, and once it has given it back
abbrev pub taken : Option ℕ → ℕ → Option ℕ
taken None thread = Some thread
taken (Some owner) thread = Some owner

abbrev pub freed : Option ℕ → ℕ → Option ℕ
freed None thread = None
freed (Some owner) thread = if nat_eq thread owner then None else Some owner

-- the mutex m after an event of the thread actor
abbrev pub mutex_next : ℕ → EventKind → ℕ → MutexState → MutexState
mutex_next actor (MutexInit mutex) m state = if nat_eq mutex m then record state { initialised = true } else state
mutex_next actor (Lock mutex) m state = if nat_eq mutex m then record state { holder = taken state.holder actor } else state
mutex_next actor (TryLock mutex) m state = if nat_eq mutex m then record state { holder = taken state.holder actor } else state
mutex_next actor (Unlock mutex) m state = if nat_eq mutex m then record state { holder = freed state.holder actor } else state
mutex_next actor _ m state = state

-- what the plain cell holds after an event
abbrev pub value_next : EventKind → ℕ → TypedNumber → TypedNumber
value_next (PlainWrite written value) cell old = if nat_eq written cell then value else old
value_next _ cell old = old
