-- A table with a clock for each place, and how its clocks are raised.
use Rattle.std.specs.Prelude.{ℕ, ◌≡◌, ◌<◌, ◌≤◌, ◌⊎◌, Bool, List, [], ◌∷◌, ◌++◌, max, length, replicate, slice_set, slice_index, slice_index_or}
use Rattle.c11_clock.specs.Clocks.{joined}
use Rattle.c11_mograph.specs.declared.kept.Kept.{Kept}
use Rattle.c11_mograph.specs.Heads.{IsHead}

-- for each place a clock, and whether a link leads on from the chain that begins there
pub record Table : Type 0 where
  pub rows : List (List ℕ)
  pub leads : List Bool

-- the clock of a place
abbrev pub row : List (List ℕ) → ℕ → List ℕ
row rows place = slice_index_or rows place []

-- each clock has so many numbers
abbrev pub AreWide : ℕ → List (List ℕ) → Type 0
AreWide threads rows = (place : ℕ) → place < length rows → length (row rows place) ≡ threads

-- the number of a thread in the clock of a place
abbrev pub number_in : List (List ℕ) → ℕ → ℕ → ℕ
number_in rows place thread = slice_index (row rows place) thread

-- the thread's number in the clock of a place raised
abbrev pub with_number : List (List ℕ) → ℕ → ℕ → ℕ → List (List ℕ)
with_number rows place thread number = slice_set rows place (slice_set (row rows place) thread (max (number_in rows place thread) number))

-- there may be a further clock, 0 everywhere
abbrev pub MayGain : ℕ → List (List ℕ) → List (List ℕ) → Type 0
MayGain threads old new = (new ≡ old) ⊎ (new ≡ old ++ replicate threads 0 ∷ [])

-- the place is that of a head of the cell, and its clock covers the number
pub record Covers (kept : List Kept) (rows : List (List ℕ)) (cell thread number place : ℕ) : Type 0 where
  pub head : IsHead kept cell place
  pub covered : number ≤ number_in rows place thread

-- from the place `first` on each but `from` whose clock covered the number took over the clock at `from`; the others are as they were
pub record IsSpread (kept : List Kept) (old new : List (List ℕ)) (first from cell thread number : ℕ) : Type 0 where
  pub grown : (place : ℕ) → first ≤ place → (place ≡ from → ⊥) → Covers kept old cell thread number place → row new place ≡ joined (row old place) (row old from)
  pub left : (place : ℕ) → (place < first) ⊎ ((place ≡ from) ⊎ (Covers kept old cell thread number place → ⊥)) → row new place ≡ row old place
  pub count : length new ≡ length old

-- one place took over so, if its clock covered the number
pub record IsSpreadTo (old new : List (List ℕ)) (to from thread number : ℕ) : Type 0 where
  pub grown : (to ≡ from → ⊥) → number ≤ number_in old to thread → row new to ≡ joined (row old to) (row old from)
  pub left : (to ≡ from) ⊎ (number ≤ number_in old to thread → ⊥) → row new to ≡ row old to
  pub else_where : (place : ℕ) → (place ≡ to → ⊥) → row new place ≡ row old place
  pub count : length new ≡ length old
