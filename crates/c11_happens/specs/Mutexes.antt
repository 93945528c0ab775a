-- The state of a mutex in the map that keeps them.
use Rattle.std.specs.Prelude.{ℕ, Option, Some, None, nat_eq}
use Rattle.std.specs.HashMap.{HashMap, get}
use Rattle.c11_happens.specs.declared.mutexes.MutexState.{MutexState}

-- of a mutex that no event named, nothing is known
abbrev pub state_or_new : Option MutexState → MutexState
state_or_new None = record { holder = None; last_unlock = 0 }
state_or_new (Some state) = state

abbrev pub state_in : {S : Type 0} → HashMap ℕ MutexState S → ℕ → MutexState
state_in mutexes mutex = state_or_new (get nat_eq mutexes mutex)
