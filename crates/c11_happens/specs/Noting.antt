-- How the tables of clocks change with an event: what the code computes, and no claim of its own.
use Rattle.std.specs.Prelude.{ℕ, ◌≡◌, ◌+◌, ◌<◌, Bool, true, false, ◌&&◌, List, [], Option, Some, None, is_some, length, max, nat_eq, nat_lt, slice_index, slice_index_or, slice_set, if◌then◌else◌}
use Rattle.c11_clock.specs.Clocks.{joined}
use Rattle.c11_events.specs.declared.event.Event.{Event}
use Rattle.c11_events.specs.Events.{is_acquire_load, is_acquire_fence, is_release_store, is_release_fence, is_create, is_end, loaded_cell, stored_cell, locked_mutex, unlocked_mutex, joined_thread}
use Rattle.c11_events.specs.Threads.{holder_next, option_is}
use Rattle.c11_happens.specs.declared.mutexes.MutexState.{MutexState}

-- a clock of a table
abbrev pub row : List (List ℕ) → ℕ → List ℕ
row table i = slice_index_or table i []

-- each clock of the table has so many places
abbrev pub AreWide : ℕ → List (List ℕ) → Type 0
AreWide threads table = (i : ℕ) → i < length table → length (row table i) ≡ threads

abbrev pub joined_if : Bool → List ℕ → List ℕ → List ℕ
joined_if true clock other = joined clock other
joined_if false clock other = clock

pub record Contents : Type 0 where
  pub created : ℕ
  pub clocks : List (List ℕ)
  pub passed : List (List ℕ)
  pub known : List (List ℕ)
  pub fenced : List (List ℕ)
  pub read : List (List ℕ)
  pub ended : List (List ℕ)
  pub mutexes : ℕ → MutexState

-- the thread's clock with what the event takes over

abbrev pub after_store : Event → List (List ℕ) → List ℕ → List ℕ
after_store e passed clock = joined_if (is_acquire_load e.kind) clock (row passed e.from)

abbrev pub after_fence : Event → List (List ℕ) → List ℕ → List ℕ
after_fence e read clock = joined_if (is_acquire_fence e.kind) clock (row read e.thread)

abbrev pub after_unlock : Option ℕ → (ℕ → MutexState) → List (List ℕ) → List ℕ → List ℕ
after_unlock None mutexes passed clock = clock
after_unlock (Some mutex) mutexes passed clock = joined_if (if is_some (mutexes mutex).holder then false else true) clock (row passed (mutexes mutex).last_unlock)

abbrev pub after_end : Option ℕ → List (List ℕ) → List ℕ → List ℕ
after_end None ended clock = clock
after_end (Some thread) ended clock = joined_if (nat_lt thread (length ended)) clock (row ended thread)

abbrev pub after_taking : Event → List (List ℕ) → List (List ℕ) → List (List ℕ) → List (List ℕ) → (ℕ → MutexState) → List ℕ
after_taking e known passed read ended mutexes = after_end (joined_thread e.kind) ended (after_unlock (locked_mutex e.kind) mutexes passed (after_fence e read (after_store e passed (row known e.thread))))

abbrev pub taken : Contents → Event → List ℕ
taken t e = after_taking e t.known t.passed t.read t.ended t.mutexes

-- the event's own clock
abbrev pub raised : List ℕ → ℕ → ℕ → List ℕ
raised clock thread number = slice_set clock thread (max (slice_index clock thread) number)

abbrev pub own_clock : Contents → Event → List ℕ
own_clock t e = joined (row t.clocks e.number) (raised (taken t e) e.thread e.number)

-- what those that read the event, or lock after it, take over

abbrev pub is_store : Event → Bool
is_store e = is_some (stored_cell e.kind)

abbrev pub is_load : Event → Bool
is_load e = is_some (loaded_cell e.kind)

abbrev pub by_stored : Event → List (List ℕ) → List (List ℕ) → List ℕ → List ℕ → List ℕ
by_stored e passed fenced own clock = joined_if (is_store e && is_load e) (joined_if (is_release_store e.kind) (joined_if (is_store e) clock (row fenced e.thread)) own) (row passed e.from)

abbrev pub by_unlocked : Option ℕ → (ℕ → MutexState) → List (List ℕ) → List ℕ → List ℕ → List ℕ
by_unlocked None mutexes passed own clock = clock
by_unlocked (Some mutex) mutexes passed own clock = joined (joined clock own) (row passed (mutexes mutex).last_unlock)

abbrev pub handed_on : Contents → Event → List ℕ → List ℕ
handed_on t e own = by_unlocked (unlocked_mutex e.kind) t.mutexes t.passed own (by_stored e t.passed t.fenced own (row t.passed e.number))

-- a created thread that has done nothing yet knows what its Create knows
abbrev pub started : List (List ℕ) → List ℕ → ℕ → List (List ℕ)
started known own thread = if nat_lt thread (length known) && nat_eq (slice_index (row known thread) thread) 0 then slice_set known thread (joined (row known thread) own) else known

-- what is kept of a mutex
abbrev pub mutex_next : ℕ → MutexState → Event → MutexState
mutex_next mutex state e = record { holder = holder_next state.holder mutex e; last_unlock = if option_is (unlocked_mutex e.kind) mutex then e.number else state.last_unlock }

-- the tables after the event
pub record IsNoted (t : Contents) (e : Event) (u : Contents) : Type 0 where
  pub created : u.created ≡ t.created + (if is_create e.kind then 1 else 0)
  pub clocks : u.clocks ≡ slice_set t.clocks e.number (own_clock t e)
  pub passed : u.passed ≡ slice_set t.passed e.number (handed_on t e (own_clock t e))
  pub known : let moved = slice_set t.known e.thread (raised (taken t e) e.thread e.number) in
      u.known ≡ (if is_create e.kind then started moved (own_clock t e) (t.created + 1) else moved)
  pub fenced : u.fenced ≡ slice_set t.fenced e.thread (joined_if (is_release_fence e.kind) (row t.fenced e.thread) (own_clock t e))
  pub read : u.read ≡ slice_set t.read e.thread (joined_if (is_load e) (row t.read e.thread) (row t.passed e.from))
  pub ended : u.ended ≡ slice_set t.ended e.thread (joined_if (is_end e.kind) (row t.ended e.thread) (own_clock t e))
  pub mutexes : (mutex : ℕ) → u.mutexes mutex ≡ mutex_next mutex (t.mutexes mutex) e

-- the event has its places in the tables
pub record IsReady (t : Contents) (e : Event) : Type 0 where
  pub number : e.number < length t.clocks
  pub number_passed : e.number < length t.passed
  pub thread : e.thread < length t.known
  pub fenced : length t.fenced ≡ length t.known
  pub read : length t.read ≡ length t.known
  pub ended : length t.ended ≡ length t.known
  pub from : is_load e ≡ true → e.from < e.number
  pub acquired : is_acquire_load e.kind ≡ true → e.from < length t.passed
  pub unlocks : (mutex : ℕ) → (t.mutexes mutex).last_unlock < e.number
  pub unlocked : (mutex : ℕ) → (t.mutexes mutex).last_unlock < length t.passed
  pub wide_clocks : AreWide (length t.known) t.clocks
  pub wide_passed : AreWide (length t.known) t.passed
  pub wide_known : AreWide (length t.known) t.known
  pub wide_fenced : AreWide (length t.known) t.fenced
  pub wide_read : AreWide (length t.known) t.read
  pub wide_ended : AreWide (length t.known) t.ended
