-- What has been noted, and the last of it.
use Rattle.std.specs.Prelude.{ℕ, ◌≡◌, ◌≤◌, List, Some, slice_get}
use Rattle.c11_latest.specs.declared.latest.Note.{Note}

-- the notes in their order, and how many there may be
pub record Notes : Type 0 where
  pub room : ℕ
  pub notes : List Note

abbrev pub note : ℕ → ℕ → ℕ → Note
note cell thread number = record { cell = cell; thread = thread; number = number }

-- the number is noted of the cell and the thread
abbrev pub IsNoted : List Note → ℕ → ℕ → ℕ → Type 0
IsNoted notes cell thread number = (place : ℕ) × (slice_get notes place ≡ Some (note cell thread number))

-- no number up to the bound is noted of the cell and the thread
abbrev pub HasNoneUpTo : List Note → ℕ → ℕ → ℕ → Type 0
HasNoneUpTo notes cell thread bound = (y : ℕ) → IsNoted notes cell thread y → y ≤ bound → ⊥

-- x is the largest number up to the bound that is noted of the cell and the thread
pub record IsLastUpTo (notes : List Note) (cell thread bound x : ℕ) : Type 0 where
  pub noted : IsNoted notes cell thread x
  pub within : x ≤ bound
  pub last : (y : ℕ) → IsNoted notes cell thread y → y ≤ bound → y ≤ x
