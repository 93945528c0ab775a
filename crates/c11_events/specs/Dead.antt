-- Stores that no thread can read any more.
use Rattle.std.specs.Prelude.{ℕ, suc, ◌≡◌, ◌≤◌, true, List, take, ◌⊎◌}
use Rattle.c11_events.specs.declared.event.Event.{Event}
use Rattle.c11_events.specs.Events.{At, IsLoad, is_create}
use Rattle.c11_events.specs.HappensBefore.{HappensBefore}
use Rattle.c11_events.specs.Threads.{created, IsLive}
use Rattle.c11_events.specs.Chains.{Reach}

-- after the first n events the thread is live
abbrev pub IsLiveAt : List Event → ℕ → ℕ → Type 0
IsLiveAt events n u = IsLive (take n events) u

-- each event is of a thread that was live before it
abbrev pub AreOfLive : List Event → Type 0
AreOfLive events = (n u : ℕ) → At events (suc n) (λ e. e.thread ≡ u) → IsLiveAt events n u

-- the last event of the thread, or its Create where it has no event
pub data IsMark (events : List Event) (u m : ℕ) : Type 0 where
  own : At events m (λ e. e.thread ≡ u) → ((b : ℕ) → At events b (λ e. e.thread ≡ u) → b ≤ m) → IsMark events u m
  made : ((b : ℕ) → At events b (λ e. e.thread ≡ u) → ⊥) → At events m (λ e. is_create e.kind ≡ true) → u ≡ created (take m events) → IsMark events u m

-- a store that x reaches, or a load that reads such a store, is the thread's mark or happens before it
pub record HasPassed (events : List Event) (cell u x : ℕ) : Type 0 where
  pub mark : ℕ
  pub is_mark : IsMark events u mark
  pub y : ℕ
  pub reach : Reach events cell x y
  pub a : ℕ
  pub touches : (a ≡ y) ⊎ IsLoad events cell a y
  pub leads : (a ≡ mark) ⊎ HappensBefore events a mark

-- each live thread has passed x
abbrev pub IsDead : List Event → ℕ → ℕ → Type 0
IsDead events cell x = (u : ℕ) → IsLive events u → HasPassed events cell u x
