-- Races of plain accesses (C11 5.1.2.4).
use Rattle.std.specs.Prelude.{ℕ, ◌≡◌, ◌<◌, ◌≤◌, List, Some, ◌⊎◌}
use Rattle.c11_events.specs.declared.event.Event.{Event}
use Rattle.c11_events.specs.Events.{At, read_cell, written_cell}
use Rattle.c11_events.specs.HappensBefore.{HappensBefore}

-- a is a plain read of the cell
abbrev pub IsRead : List Event → ℕ → ℕ → Type 0
IsRead events cell a = At events a (λ e. read_cell e.kind ≡ Some cell)

-- a is a plain write of the cell
abbrev pub IsWrite : List Event → ℕ → ℕ → Type 0
IsWrite events cell a = At events a (λ e. written_cell e.kind ≡ Some cell)

abbrev pub SameThread : List Event → ℕ → ℕ → Type 0
SameThread events a b = At events a (λ e. At events b (λ f. e.thread ≡ f.thread))

-- the earlier access m races with n
pub record Races (events : List Event) (cell m n : ℕ) : Type 0 where
  pub accesses : (IsWrite events cell m × (IsRead events cell n ⊎ IsWrite events cell n)) ⊎ (IsRead events cell m × IsWrite events cell n)
  pub earlier : m < n
  pub apart : SameThread events m n → ⊥
  pub unordered : HappensBefore events m n → ⊥

-- m is the latest access that races with n
pub record IsRacing (events : List Event) (cell n m : ℕ) : Type 0 where
  pub races : Races events cell m n
  pub last : (k : ℕ) → Races events cell k n → k ≤ m

-- m is the last write of the cell before n, or the latest read of its thread
pub data Kept (events : List Event) (cell n m : ℕ) : Type 0 where
  write : IsWrite events cell m → m < n → ((k : ℕ) → k < n → IsWrite events cell k → k ≤ m) → Kept events cell n m
  read : IsRead events cell m → m < n → ((k : ℕ) → k < n → IsRead events cell k → SameThread events m k → k ≤ m) → Kept events cell n m
