-- What a graph has to say of events.
use Rattle.std.specs.Prelude.{ℕ, ◌≡◌, ◌↔◌, List, Option, Some, None, is_some, if◌then◌else◌}
use Rattle.c11_events.specs.declared.event.Event.{Event}
use Rattle.c11_events.specs.Events.{At, stored_cell, loaded_cell}
use Rattle.c11_events.specs.Chains.{MustPrecede, Reach}
use Rattle.c11_mograph.specs.Made as made
use Rattle.c11_mograph.specs.Made.{Store, Made, IsAdded, IsPair}

-- what a read-modify-write goes on from
abbrev pub after_of : Event → Option ℕ
after_of e = if is_some (loaded_cell e.kind) then Some e.from else None

-- the event x is this store
pub record IsStoreAs (x : ℕ) (e : Event) (s : Store) : Type 0 where
  pub cell : stored_cell e.kind ≡ Some s.cell
  pub number : s.number ≡ x
  pub thread : s.thread ≡ e.thread
  pub after : s.after ≡ after_of e

-- the stores are those of the events, all that must precede is reached, and pairs are of stores that are reached
pub record Agrees (m : Made) (events : List Event) : Type 0 where
  pub stores : (x : ℕ) (s : Store) → IsAdded m.stores x (λ t. t ≡ s) ↔ At events x (λ e. IsStoreAs x e s)
  pub must : (cell a b : ℕ) → MustPrecede events cell a b → made.Reach m a b
  pub pairs : (a b : ℕ) → IsPair m.pairs a b → (cell : ℕ) × Reach events cell a b
