-- Clocks as lists of numbers, one for each thread from 0 on.
use Rattle.std.specs.Prelude.{ℕ, ◌<◌, List, [], ◌∷◌, max, length, slice_index}

-- the larger number of both for each thread
abbrev pub joined : List ℕ → List ℕ → List ℕ
joined [] ys = ys
joined (x ∷ xs) [] = x ∷ xs
joined (x ∷ xs) (y ∷ ys) = max x y ∷ joined xs ys

-- some number is smaller than the other clock's
pub record HasBelow (mine theirs : List ℕ) : Type 0 where
  pub thread : ℕ
  pub within : thread < length mine
  pub smaller : slice_index mine thread < slice_index theirs thread
