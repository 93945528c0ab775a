-- What is kept, and the events for which it stands.
use Rattle.std.specs.Prelude.{ℕ, ◌≡◌, ◌<◌, ⊤, List, Some, None, length, slice_get, if◌then◌else◌}
use Rattle.c11_num.specs.Ranges.{TypedNumber}
use Rattle.c11_events.specs.declared.event.Event.{Event}
use Rattle.c11_events.specs.declared.op.Op.{Op}
use Rattle.c11_events.specs.declared.op.Op.TheVariants as op
use Rattle.c11_events.specs.Threads.{created, has_ended, is_joined, is_initialised, holder}
use Rattle.c11_events.specs.Replies.{Setting, initial_of, plain_value, end_value, began}
use Rattle.c11_replies.specs.declared.threads.ThreadState.{ThreadState}
use Rattle.c11_replies.specs.declared.mutexes.MutexState.{MutexState}

-- how many threads were created, what is kept of each thread and of each mutex, and what each plain cell holds
pub record Words : Type 0 where
  pub created : ℕ
  pub threads : List ThreadState
  pub mutexes : List MutexState
  pub values : List TypedNumber

-- the state is that of the thread u after the events
pub record IsThreadAfter (setting : Setting) (events : List Event) (u : ℕ) (state : ThreadState) : Type 0 where
  pub told : state.told ≡ began setting events u
  pub ended : state.ended ≡ (if has_ended events u then Some (end_value events u) else None)
  pub joined : state.joined ≡ is_joined events u

-- the state is that of the mutex after the events
pub record IsMutexAfter (events : List Event) (mutex : ℕ) (state : MutexState) : Type 0 where
  pub initialised : state.initialised ≡ is_initialised events mutex
  pub holder : state.holder ≡ holder events mutex

-- the words are those of these events, of a program with this setting
pub record StandsFor (words : Words) (setting : Setting) (events : List Event) : Type 0 where
  pub created : words.created ≡ created events
  pub threads : (u : ℕ) (state : ThreadState) → slice_get words.threads u ≡ Some state → IsThreadAfter setting events u state
  pub mutexes : (mutex : ℕ) (state : MutexState) → slice_get words.mutexes mutex ≡ Some state → IsMutexAfter events mutex state
  pub values : (cell : ℕ) (value : TypedNumber) → slice_get words.values cell ≡ Some value → value ≡ plain_value cell (initial_of setting.plain cell) events

-- the operation's mutex, plain cell and joined thread are among those that are kept
abbrev pub IsWithin : Words → Op → Type 0
IsWithin words (op.PlainRead cell) = cell < length words.values
IsWithin words (op.MutexInit mutex) = mutex < length words.mutexes
IsWithin words (op.Lock mutex) = mutex < length words.mutexes
IsWithin words (op.TryLock mutex) = mutex < length words.mutexes
IsWithin words (op.Unlock mutex) = mutex < length words.mutexes
IsWithin words (op.Join thread) = thread < length words.threads
IsWithin words _ = ⊤

-- as many threads, mutexes and plain cells are kept
pub record HaveSameCounts (old new : Words) : Type 0 where
  pub threads : length new.threads ≡ length old.threads
  pub mutexes : length new.mutexes ≡ length old.mutexes
  pub values : length new.values ≡ length old.values
