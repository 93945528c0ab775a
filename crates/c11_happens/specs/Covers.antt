-- What a clock covers, and which events tell what a thread knows.
use Rattle.std.specs.Prelude.{ℕ, ◌≡◌, ◌≤◌, ◌↔◌, ◌⊎◌, true, List, Some, slice_index, take}
use Rattle.c11_events.specs.declared.event.Event.{Event}
use Rattle.c11_events.specs.Events.{At, event_at, is_create}
use Rattle.c11_events.specs.HappensBefore.{HappensBefore}
use Rattle.c11_events.specs.Threads.{created}

-- a is b, or happens before it
abbrev pub UpTo : List Event → ℕ → ℕ → Type 0
UpTo events b a = (a ≡ b) ⊎ HappensBefore events a b

-- of the events, the clock covers exactly those that have P
abbrev pub CoversExactly : List Event → List ℕ → (ℕ → Type 0) → Type 0
CoversExactly events clock P = (a : ℕ) (e : Event) → event_at events a ≡ Some e → (a ≤ slice_index clock e.thread) ↔ P a

-- the event a is of the thread
abbrev pub IsOf : List Event → ℕ → ℕ → Type 0
IsOf events thread a = At events a (λ e. e.thread ≡ thread)

abbrev pub HasNoEvent : List Event → ℕ → Type 0
HasNoEvent events thread = (a : ℕ) → IsOf events thread a → ⊥

-- b is the thread's last event
pub record IsLastOf (events : List Event) (thread b : ℕ) : Type 0 where
  pub is : IsOf events thread b
  pub last : (a : ℕ) → IsOf events thread a → a ≤ b

-- c is the Create of the thread (C11 7.26.5.1)
pub record IsCreateOf (events : List Event) (thread c : ℕ) : Type 0 where
  pub is : At events c (λ e. is_create e.kind ≡ true)
  pub creates : created (take c events) ≡ thread
