-- Lawful orders of the stores of a cell, and how they are found.
use Rattle.std.specs.Prelude.{ℕ, ◌≡◌, ◌≤◌, List, ◌++◌, Some, length}
use Rattle.c11_events.specs.declared.event.Event.{Event}
use Rattle.c11_events.specs.Events.{IsStore, stored_cell}
use Rattle.c11_events.specs.Lawful.{Lawful}
use Rattle.c11_plain.specs.Orders.{StandsBefore}

-- x is a store of the cell that is not in the order
pub record MayStand (events : List Event) (cell : ℕ) (order : List ℕ) (x : ℕ) : Type 0 where
  pub store : IsStore events cell x
  pub absent : StandsBefore order (length order) x → ⊥

-- so many further stores or fewer make the order a lawful one
pub record Extends (events : List Event) (cell : ℕ) (order : List ℕ) (depth : ℕ) : Type 0 where
  pub rest : List ℕ
  pub within : length rest ≤ depth
  pub lawful : Lawful events cell (order ++ rest)

-- the cell has a lawful order
pub record HasOrder (events : List Event) (cell : ℕ) : Type 0 where
  pub order : List ℕ
  pub lawful : Lawful events cell order

-- the cell that the event stores to has a lawful order
pub record HasOrders (events : List Event) (event : Event) : Type 0 where
  pub order_of : (cell : ℕ) → stored_cell event.kind ≡ Some cell → HasOrder events cell
