-- What the tables hold: each clock stands for its marks.
use Rattle.std.specs.Prelude.{ℕ, ◌≡◌, ◌+◌, ◌<◌, ◌≤◌, ◌⊎◌, List, Some, length, replicate}
use Rattle.c11_events.specs.declared.event.Event.{Event}
use Rattle.c11_events.specs.Events.{event_at, IsStore, ReadsEarlier}
use Rattle.c11_events.specs.Threads.{holder, created}
use Rattle.c11_happens.specs.Marks.{IsClockOf, Knows, Hands, ReadBy, IsFenceOf, IsEndOf, IsUnlockOf, IsUnlockUpTo}
use Rattle.c11_happens.specs.Noting.{row, AreWide, Contents}

-- x is the last Unlock of the mutex, or 0 where there is none
abbrev pub IsLastUnlock : List Event → ℕ → ℕ → Type 0
IsLastUnlock events mutex x = ((x ≡ 0) ⊎ IsUnlockOf events mutex x) × ((m : ℕ) → IsUnlockOf events mutex m → m ≤ x)

-- the tables have these sizes: a clock for each number of an event from 0 on, and one for each thread
pub record AreSized (threads room : ℕ) (t : Contents) : Type 0 where
  pub clocks : length t.clocks ≡ room + 1
  pub passed : length t.passed ≡ room + 1
  pub known : length t.known ≡ threads
  pub fenced : length t.fenced ≡ threads
  pub read : length t.read ≡ threads
  pub ended : length t.ended ≡ threads
  pub wide_clocks : AreWide threads t.clocks
  pub wide_passed : AreWide threads t.passed
  pub wide_known : AreWide threads t.known
  pub wide_fenced : AreWide threads t.fenced
  pub wide_read : AreWide threads t.read
  pub wide_ended : AreWide threads t.ended

pub record IsKept (threads room : ℕ) (events : List Event) (t : Contents) : Type 0 where
  pub sized : AreSized threads room t
  pub reads : ReadsEarlier events
  pub fits : length events ≤ room
  pub within : (a : ℕ) (e : Event) → event_at events a ≡ Some e → e.thread < threads
  pub count : t.created ≡ created events
  -- number 0 is that of no event, and what comes is blank
  pub none : row t.passed 0 ≡ replicate threads 0
  pub blank_clocks : (b : ℕ) → length events < b → b ≤ room → row t.clocks b ≡ replicate threads 0
  pub blank_passed : (b : ℕ) → length events < b → b ≤ room → row t.passed b ≡ replicate threads 0
  pub clocks : (b : ℕ) (e : Event) → event_at events b ≡ Some e → IsClockOf events (row t.clocks b) (λ m. m ≡ b)
  pub stores : (cell x : ℕ) → IsStore events cell x → IsClockOf events (row t.passed x) (Hands events cell x)
  pub unlocks : (mutex x : ℕ) → IsUnlockOf events mutex x → IsClockOf events (row t.passed x) (IsUnlockUpTo events mutex x)
  pub known : (thread : ℕ) → thread < threads → IsClockOf events (row t.known thread) (Knows events thread)
  pub fenced : (thread : ℕ) → thread < threads → IsClockOf events (row t.fenced thread) (IsFenceOf events thread)
  pub read : (thread : ℕ) → thread < threads → IsClockOf events (row t.read thread) (ReadBy events thread)
  pub ended : (thread : ℕ) → thread < threads → IsClockOf events (row t.ended thread) (IsEndOf events thread)
  pub holders : (mutex : ℕ) → (t.mutexes mutex).holder ≡ holder events mutex
  pub last_unlocks : (mutex : ℕ) → IsLastUnlock events mutex (t.mutexes mutex).last_unlock
