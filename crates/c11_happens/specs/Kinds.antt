-- What an event is to the tables.
use Rattle.std.specs.Prelude.{ℕ, Option, Some, None}
use Rattle.c11_events.specs.declared.event.EventKind.{EventKind}
use Rattle.c11_events.specs.declared.event.EventKind.TheVariants.{Lock, TryLock, Unlock}

-- the mutex that is locked or unlocked
abbrev pub mutex_of : EventKind → Option ℕ
mutex_of (Lock mutex) = Some mutex
mutex_of (TryLock mutex) = Some mutex
mutex_of (Unlock mutex) = Some mutex
mutex_of _ = None
