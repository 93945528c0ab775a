-- What the clock of a chain says.
use Rattle.std.specs.Prelude.{ℕ, ◌≡◌, ◌<◌, ◌≤◌, ◌⊎◌, List}
use Rattle.c11_mograph.specs.Made.{Store, Made, IsAdded, Chain, Links, Reach}

-- a is a store by the thread, of the chain that begins with k or of one that leads there
pub record IsInto (made : Made) (thread k a : ℕ) : Type 0 where
  pub by : IsAdded made.stores a (λ s. s.thread ≡ thread)
  pub h : ℕ
  pub i : ℕ
  pub chain : Chain made.stores h i a
  pub leads : (h ≡ k) ⊎ Links made h k

-- n is the largest number of which P holds, or 0 where P holds of none
pub record IsLargest (P : ℕ → Type 0) (n : ℕ) : Type 0 where
  pub bound : (a : ℕ) → P a → a ≤ n
  pub met : (n ≡ 0) ⊎ P n

-- a and b are stores of one cell
abbrev pub AreOfCell : List Store → ℕ → ℕ → Type 0
AreOfCell stores a b = IsAdded stores a (λ s. IsAdded stores b (λ t. s.cell ≡ t.cell))

-- a and b are stores of one cell by one thread
abbrev pub AreOwn : List Store → ℕ → ℕ → Type 0
AreOwn stores a b = IsAdded stores a (λ s. IsAdded stores b (λ t. (s.cell ≡ t.cell) × (s.thread ≡ t.thread)))

-- from a the later stores of its thread and cell are reached
abbrev pub LeadsOn : Made → ℕ → Type 0
LeadsOn made a = (b : ℕ) → AreOwn made.stores a b → a < b → Reach made a b

-- the stores of one thread and cell are linked in order
abbrev pub OwnInOrder : Made → Type 0
OwnInOrder made = (a : ℕ) → LeadsOn made a

-- the chain that begins with y is that of k, or k leads to it
abbrev pub IsLed : Made → ℕ → ℕ → Type 0
IsLed made k y = (k ≡ y) ⊎ Links made k y

-- all that is into more chains than before is into that of k, and into all chains that k leads to
pub record IsGrownAt (made made' : Made) (k : ℕ) : Type 0 where
  pub less : (thread y a : ℕ) → IsInto made' thread y a → IsInto made thread y a ⊎ (IsLed made k y × IsInto made' thread k a)
  pub keeps : (thread y a : ℕ) → IsInto made thread y a → IsInto made' thread y a
  pub leads : (y : ℕ) → Links made k y → Links made' k y
  pub led : (y : ℕ) → Links made' k y → IsLed made k y
