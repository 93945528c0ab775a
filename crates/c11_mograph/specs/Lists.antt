-- Lists that took room and nothing else.
use Rattle.std.specs.Prelude.{ℕ, ◌≡◌, ◌<◌, ◌≤◌, List, [], ◌∷◌, ◌++◌, Some, length, slice_get, vec_len, vec_capacity}
use Rattle.std.specs.Global.{Vec}

-- each list has the same items, and no less room
pub record HaveGrown (old new : List (Vec ℕ)) : Type 0 where
  pub items : (cell : ℕ) (a b : Vec ℕ) → slice_get old cell ≡ Some a → slice_get new cell ≡ Some b → b.items ≡ a.items
  pub room : (cell : ℕ) (a b : Vec ℕ) → slice_get old cell ≡ Some a → slice_get new cell ≡ Some b → vec_capacity a ≤ vec_capacity b

-- the list of a cell has one number more; the others are as they were
pub record HasPushed (old new : List (Vec ℕ)) (cell number : ℕ) : Type 0 where
  pub count : length new ≡ length old
  pub here : (a b : Vec ℕ) → slice_get old cell ≡ Some a → slice_get new cell ≡ Some b → b.items ≡ a.items ++ number ∷ []
  pub others : (other : ℕ) (b : Vec ℕ) → (other ≡ cell → ⊥) → slice_get new other ≡ Some b → slice_get old other ≡ Some b

-- there is room in each list but that of the cell
pub record HaveRoomBut (cell : ℕ) (lists : List (Vec ℕ)) : Type 0 where
  pub within : cell < length lists
  pub room : (other : ℕ) (list : Vec ℕ) → (other ≡ cell → ⊥) → slice_get lists other ≡ Some list → vec_len list < vec_capacity list
