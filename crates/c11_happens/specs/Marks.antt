-- What each kept clock stands for: a set of events, its marks, and with them what happens before a mark.
use Rattle.std.specs.Prelude.{ℕ, ◌≡◌, ◌≤◌, ◌⊎◌, true, List, Some, None, slice_index}
use Rattle.c11_events.specs.declared.event.Event.{Event}
use Rattle.c11_events.specs.Events.{At, IsLoad, is_acquire_load, is_acquire_fence, is_release_fence, is_end, loaded_cell, locked_mutex, unlocked_mutex, joined_thread}
use Rattle.c11_events.specs.HappensBefore.{ProgramOrder, ReleaseSequence, IsReleaseStore, IsReleaseFence}
use Rattle.c11_events.specs.Threads.{holder}
use Rattle.c11_happens.specs.Covers.{UpTo, CoversExactly, IsOf, HasNoEvent, IsCreateOf}

-- a is a mark, or happens before one
abbrev pub Below : List Event → (ℕ → Type 0) → ℕ → Type 0
Below events Mark a = (m : ℕ) × (Mark m × UpTo events m a)

-- each number of the clock is 0 or that of an event of its thread, and the clock covers exactly the marks and what happens before them
pub record IsClockOf (events : List Event) (clock : List ℕ) (Mark : ℕ → Type 0) : Type 0 where
  pub tight : (thread : ℕ) → (slice_index clock thread ≡ 0) ⊎ IsOf events thread (slice_index clock thread)
  pub exact : CoversExactly events clock (Below events Mark)

-- what a thread knows: its own events, and before its first one its Create
pub data Knows (events : List Event) (thread m : ℕ) : Type 0 where
  own : IsOf events thread m → Knows events thread m
  start : HasNoEvent events thread → IsCreateOf events thread m → Knows events thread m

-- m releases what an acquire takes over that reads the store x of the cell: it heads a release sequence to x, or is a release fence
-- before the head
pub data Hands (events : List Event) (cell x m : ℕ) : Type 0 where
  by_store : {n : ℕ} → IsReleaseStore events m → ReleaseSequence events cell m n x → Hands events cell x m
  by_fence : {s n : ℕ} → IsReleaseFence events m → ProgramOrder events m s → ReleaseSequence events cell s n x → Hands events cell x m

-- what an acquire fence of the thread takes over: m hands it to one of the thread's loads
pub record ReadBy (events : List Event) (thread m : ℕ) : Type 0 where
  pub l : ℕ
  pub cell : ℕ
  pub x : ℕ
  pub is : IsOf events thread l
  pub reads : IsLoad events cell l x
  pub hands : Hands events cell x m

abbrev pub IsFenceOf : List Event → ℕ → ℕ → Type 0
IsFenceOf events thread m = At events m (λ e. (is_release_fence e.kind ≡ true) × (e.thread ≡ thread))

abbrev pub IsEndOf : List Event → ℕ → ℕ → Type 0
IsEndOf events thread m = At events m (λ e. (is_end e.kind ≡ true) × (e.thread ≡ thread))

abbrev pub IsUnlockOf : List Event → ℕ → ℕ → Type 0
IsUnlockOf events mutex m = At events m (λ e. unlocked_mutex e.kind ≡ Some mutex)

-- m is an Unlock of the mutex, x or an earlier one
abbrev pub IsUnlockUpTo : List Event → ℕ → ℕ → ℕ → Type 0
IsUnlockUpTo events mutex x m = IsUnlockOf events mutex m × (m ≤ x)

-- What the further event e takes over, of the list before it.

-- m hands it what it reads
pub record Handed (events : List Event) (e : Event) (m : ℕ) : Type 0 where
  pub cell : ℕ
  pub loads : loaded_cell e.kind ≡ Some cell
  pub hands : Hands events cell e.from m

pub record TakesFromStore (events : List Event) (e : Event) (m : ℕ) : Type 0 where
  pub acquires : is_acquire_load e.kind ≡ true
  pub handed : Handed events e m

pub record TakesByFence (events : List Event) (e : Event) (m : ℕ) : Type 0 where
  pub acquires : is_acquire_fence e.kind ≡ true
  pub read : ReadBy events e.thread m

pub record TakesFromUnlock (events : List Event) (e : Event) (m : ℕ) : Type 0 where
  pub mutex : ℕ
  pub locks : locked_mutex e.kind ≡ Some mutex
  pub free : holder events mutex ≡ None
  pub unlock : IsUnlockOf events mutex m

pub record TakesFromEnd (events : List Event) (e : Event) (m : ℕ) : Type 0 where
  pub thread : ℕ
  pub joins : joined_thread e.kind ≡ Some thread
  pub end : IsEndOf events thread m

abbrev pub Takes : List Event → Event → ℕ → Type 0
Takes events e m = (((Knows events e.thread m ⊎ TakesFromStore events e m) ⊎ TakesByFence events e m) ⊎ TakesFromUnlock events e m) ⊎ TakesFromEnd events e m
