-- Relations on numbers as tables.
use Rattle.std.specs.Prelude.{ℕ, ◌≡◌, ◌<◌, ◌+◌, ◌*◌, ◌⊎◌, Bool, true, false, Some, slice_get}
use Rattle.c11_plain.specs.declared.pairs.Pairs.{Pairs}

-- the pair is in the relation of the table
pub record Holds (table : Pairs) (a b : ℕ) : Type 0 where
  pub first : a < table.count
  pub second : b < table.count
  pub bit : slice_get table.bits.items (a * table.count + b) ≡ Some true

-- the table holds this relation
pub record IsTableOf (table : Pairs) (R : ℕ → ℕ → Type 0) : Type 0 where
  pub sound : (a b : ℕ) → Holds table a b → R a b
  pub complete : (a b : ℕ) → R a b → Holds table a b

-- the table has what the test says, for each pair of numbers below the count, and nothing else
pub record Tabulates (count : ℕ) (test : ℕ → ℕ → Bool → Type 0) (table : Pairs) : Type 0 where
  pub only : (a b : ℕ) → Holds table a b → (a < count) × (b < count) × test a b true
  pub all : (a b : ℕ) → a < count → b < count → Holds table a b ⊎ test a b false

-- the pairs of a table that pass a test
pub record Selects (table : Pairs) (test : ℕ → ℕ → Bool → Type 0) (kept : Pairs) : Type 0 where
  pub only : (a b : ℕ) → Holds kept a b → Holds table a b × test a b true
  pub all : (a b : ℕ) → Holds table a b → Holds kept a b ⊎ test a b false

-- whether each pair of a table passes a test
pub record AllPass (table : Pairs) (test : ℕ → ℕ → Bool → Type 0) (passed : Bool) : Type 0 where
  pub each : passed ≡ true → (a b : ℕ) → Holds table a b → test a b true
  pub some : passed ≡ false → (a b : ℕ) × (Holds table a b × test a b false)

-- whether some number below the bound passes the test
pub record FindsBelow (bound : ℕ) (test : ℕ → Bool → Type 0) (found : Bool) : Type 0 where
  pub some : found ≡ true → (k : ℕ) × ((k < bound) × test k true)
  pub none : found ≡ false → (k : ℕ) → k < bound → test k false
