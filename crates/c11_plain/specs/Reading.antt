-- Loads that read earlier stores.
use Rattle.std.specs.Prelude.{ℕ, ◌≡◌, ◌≤◌, List, Some}
use Rattle.c11_events.specs.declared.event.Event.{Event}
use Rattle.c11_events.specs.Events.{IsStore, loaded_cell}

-- the event at the place, from 0, reads a store of its cell with a smaller number, if it is a load
pub record ReadsWell (events : List Event) (event : Event) (place : ℕ) : Type 0 where
  pub store : (cell : ℕ) → loaded_cell event.kind ≡ Some cell → IsStore events cell event.from × (event.from ≤ place)
