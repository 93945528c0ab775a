-- The heads of the chains of each cell, each leading to the one before it.
use Rattle.std.specs.Prelude.{ℕ, ◌≡◌, ◌+◌, ◌<◌, ◌≤◌, List, Some, length, slice_get}
use Rattle.c11_mograph.specs.declared.kept.Kept.{Kept}

-- the store at the place is of the cell and begins a chain
pub record IsHead (kept : List Kept) (cell place : ℕ) : Type 0 where
  pub here : Kept
  pub is : slice_get kept place ≡ Some here
  pub of_cell : here.cell ≡ cell
  pub begins : here.head ≡ place

-- one more than the place of the last head of the cell before the bound, or 0 where there is none
pub record IsNewest (kept : List Kept) (cell bound next : ℕ) : Type 0 where
  pub within : next ≤ bound
  pub head : (place : ℕ) → next ≡ place + 1 → IsHead kept cell place
  pub none : (place : ℕ) → next ≤ place → place < bound → IsHead kept cell place → ⊥

-- each store leads to the last head of its cell before it, and each cell to its last head
pub record AreLinked (kept : List Kept) (newest : List ℕ) : Type 0 where
  pub older : (place : ℕ) (k : Kept) → slice_get kept place ≡ Some k → IsNewest kept k.cell place k.older
  pub last : (cell next : ℕ) → slice_get newest cell ≡ Some next → IsNewest kept cell (length kept) next
