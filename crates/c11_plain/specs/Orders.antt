-- Places in an order of stores.
use Rattle.std.specs.Prelude.{ℕ, ◌≡◌, ◌<◌, List, Some, slice_get, length}
use Rattle.c11_events.specs.declared.event.Event.{Event}
use Rattle.c11_events.specs.Events.{IsStore}

-- x stands somewhere before the place
abbrev pub StandsBefore : List ℕ → ℕ → ℕ → Type 0
StandsBefore order place x = (i : ℕ) × ((i < place) × (slice_get order i ≡ Some x))

-- no number stands at two places
abbrev pub HasNoRepeat : List ℕ → Type 0
HasNoRepeat order = (i j x : ℕ) → slice_get order i ≡ Some x → slice_get order j ≡ Some x → i ≡ j

-- x is in the order, if it is a store of the cell
pub record HasIfStore (events : List Event) (cell : ℕ) (order : List ℕ) (x : ℕ) : Type 0 where
  pub stands : IsStore events cell x → StandsBefore order (length order) x

-- each store of the cell is in the order
abbrev pub HasEachStore : List Event → ℕ → List ℕ → Type 0
HasEachStore events cell order = (x : ℕ) → IsStore events cell x → (i : ℕ) × (slice_get order i ≡ Some x)

-- what stands at the place is a store of the cell
pub record IsStoreAt (events : List Event) (cell : ℕ) (order : List ℕ) (place : ℕ) : Type 0 where
  pub is : (x : ℕ) → slice_get order place ≡ Some x → IsStore events cell x

-- what is in the order is a store of the cell
abbrev pub HasOnlyStores : List Event → ℕ → List ℕ → Type 0
HasOnlyStores events cell order = (x i : ℕ) → slice_get order i ≡ Some x → IsStore events cell x
