-- The stores of a graph and the pairs that were linked, and what is reached along the links (this project's own).
use Rattle.std.specs.Prelude.{ℕ, suc, ◌≡◌, ◌<◌, ◌&&◌, List, [], ◌∷◌, ◌++◌, Option, Some, None, ◌⊎◌, slice_get, nat_eq, if◌then◌else◌}
use Rattle.c11_events.specs.Closure.{Closure}

-- a store as it was added: of a cell, with a number, by a thread; a read-modify-write goes on from the store that it reads
pub record Store : Type 0 where
  pub cell : ℕ
  pub number : ℕ
  pub thread : ℕ
  pub after : Option ℕ

-- the first must precede the second
pub record Pair : Type 0 where
  pub first : ℕ
  pub second : ℕ

pub record Made : Type 0 where
  pub stores : List Store
  pub pairs : List Pair

abbrev pub nothing_made : Made
nothing_made = record { stores = []; pairs = [] }

-- the store x was added, and P holds of it
pub record IsAdded (stores : List Store) (x : ℕ) (P : Store → Type 0) : Type 0 where
  pub place : ℕ
  pub store : Store
  pub is : slice_get stores place ≡ Some store
  pub number : store.number ≡ x
  pub holds : P store

-- b goes on from y
abbrev pub GoesOn : List Store → ℕ → ℕ → Type 0
GoesOn stores b y = IsAdded stores b (λ s. s.after ≡ Some y)

-- x is in the chain that begins with head; the rank counts the read-modify-writes in it up to x, x among them
pub data Chain (stores : List Store) (head : ℕ) : ℕ → ℕ → Type 0 where
  here : IsAdded stores head (λ s. s.after ≡ None) → Chain stores head 0 head
  next : {rank y x : ℕ} → Chain stores head rank y → GoesOn stores x y → Chain stores head (suc rank) x

pub record IsPair (pairs : List Pair) (a b : ℕ) : Type 0 where
  pub place : ℕ
  pub pair : Pair
  pub is : slice_get pairs place ≡ Some pair
  pub first : pair.first ≡ a
  pub second : pair.second ≡ b

-- a pair leads from the chain h to another, k
pub record Link (made : Made) (h k : ℕ) : Type 0 where
  pub differ : h ≡ k → ⊥
  pub a : ℕ
  pub b : ℕ
  pub i : ℕ
  pub j : ℕ
  pub first : Chain made.stores h i a
  pub second : Chain made.stores k j b
  pub pair : IsPair made.pairs a b

abbrev pub Links : Made → ℕ → ℕ → Type 0
Links made = Closure (Link made)

-- links lead from a's chain to b's, or they are of one chain and a comes first in it
pub record Reach (made : Made) (a b : ℕ) : Type 0 where
  pub h : ℕ
  pub k : ℕ
  pub i : ℕ
  pub j : ℕ
  pub first : Chain made.stores h i a
  pub second : Chain made.stores k j b
  pub leads : ((h ≡ k → ⊥) × Links made h k) ⊎ ((h ≡ k) × (i < j))

-- no chain reaches itself, and no pair inside a chain has the ranks reversed
pub record Ordered (made : Made) : Type 0 where
  pub acyclic : (h : ℕ) → Links made h h → ⊥
  pub ranked : (a b h i j : ℕ) → IsPair made.pairs a b → Chain made.stores h i a → Chain made.stores h j b → j < i → ⊥

-- pairs from each of these other than x to x
abbrev pub pairs_into : List ℕ → ℕ → List Pair
pairs_into [] x = []
pairs_into (p ∷ ps) x = (if nat_eq p x then [] else (record { first = p; second = x } ∷ [])) ++ pairs_into ps x

abbrev pub with_pairs : Made → List ℕ → ℕ → Made
with_pairs made prior x = record made { pairs = made.pairs ++ pairs_into prior x }

abbrev pub or_else : Option ℕ → Option ℕ → Option ℕ
or_else None other = other
or_else (Some x) other = Some x

-- the last store of the cell by the thread
abbrev pub previous : List Store → ℕ → ℕ → Option ℕ
previous [] cell thread = None
previous (s ∷ ss) cell thread = or_else (previous ss cell thread) (if nat_eq s.cell cell && nat_eq s.thread thread then Some s.number else None)

-- the number, or 0 without one
abbrev pub number_of : Option ℕ → ℕ
number_of None = 0
number_of (Some x) = x

abbrev pub list_of : Option ℕ → List ℕ
list_of None = []
list_of (Some x) = x ∷ []

-- a further store, which the last one of its cell and thread must precede
abbrev pub with_store : Made → Store → Made
with_store made s = with_pairs (record made { stores = made.stores ++ s ∷ [] }) (list_of (previous made.stores s.cell s.thread)) s.number

-- the stores of a cell, in the order of adding, which is that of their numbers
abbrev pub stores_of : ℕ → List Store → List ℕ
stores_of cell [] = []
stores_of cell (s ∷ ss) = (if nat_eq s.cell cell then s.number ∷ [] else []) ++ stores_of cell ss

-- a further store may go on from y: that is a store of its cell that none goes on from, and the last store of its thread may
-- precede y
pub record GoesOnFrom (made : Made) (s : Store) (y : ℕ) : Type 0 where
  pub of_cell : IsAdded made.stores y (λ t. t.cell ≡ s.cell)
  pub last : (b : ℕ) → GoesOn made.stores b y → ⊥
  pub ordered : Ordered (with_pairs made (list_of (previous made.stores s.cell s.thread)) y)

-- a further store has a larger number than all before
pub record CanAdd (made : Made) (s : Store) : Type 0 where
  pub positive : 0 < s.number
  pub larger : (place : ℕ) (t : Store) → slice_get made.stores place ≡ Some t → t.number < s.number
  pub goes_on : (y : ℕ) → s.after ≡ Some y → GoesOnFrom made s y

-- numbers rise
abbrev pub AreRising : List ℕ → Type 0
AreRising numbers = (i j x y : ℕ) → slice_get numbers i ≡ Some x → slice_get numbers j ≡ Some y → i < j → x < y

-- each of these is a store, and so is x, of the same cell
abbrev pub OfOneCell : List Store → List ℕ → ℕ → Type 0
OfOneCell stores prior x = (i p : ℕ) → slice_get prior i ≡ Some p → IsAdded stores p (λ s. IsAdded stores x (λ t. s.cell ≡ t.cell))
