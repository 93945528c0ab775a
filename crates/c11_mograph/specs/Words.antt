-- What a graph keeps, and what it stands for.
use Rattle.std.specs.Prelude.{ℕ, ◌≡◌, ◌<◌, ◌≤◌, ◌↔◌, ◌+◌, Bool, true, false, IsTrue, List, Some, length, slice_get, vec_len, vec_capacity}
use Rattle.std.specs.Global.{Vec}
use Rattle.c11_mograph.specs.declared.kept.Kept.{Kept}
use Rattle.c11_mograph.specs.Spread.{Table, AreWide, number_in}
use Rattle.c11_mograph.specs.Clocks.{IsInto, IsLargest, OwnInOrder}
use Rattle.c11_mograph.specs.Made.{Store, Made, IsAdded, GoesOn, Chain, IsPair, Links, Ordered, stores_of, previous, number_of}

-- the counts of threads and of stores that may be added; of each store its number and what is kept beside it; the stores of each
-- cell, and the last one of each thread; a clock for each place, and whether a link leads on from there; whether there is room for a store
pub record Words : Type 0 where
  pub threads : ℕ
  pub size : ℕ
  pub numbers : List ℕ
  pub kept : List Kept
  pub lists : List (Vec ℕ)
  pub lasts : List (List ℕ)
  pub clocks : Table
  pub ready : Bool

-- the places that are kept are within the table, and there is room where room was made
pub record AreSafe (words : Words) : Type 0 where
  pub few : length words.numbers ≤ words.size
  pub each : length words.kept ≡ length words.numbers
  pub leads : length words.clocks.leads ≡ length words.numbers
  pub rows : length words.numbers ≤ length words.clocks.rows
  pub spare : words.ready ≡ true → length words.numbers < length words.clocks.rows
  pub wide : AreWide words.threads words.clocks.rows
  pub lasts : length words.lasts ≡ length words.lists
  pub wide_lasts : AreWide words.threads words.lasts
  pub small : words.size < 4294967296
  pub heads : (place : ℕ) (kept : Kept) → slice_get words.kept place ≡ Some kept → kept.head < length words.numbers
  pub ranks : (place : ℕ) (kept : Kept) → slice_get words.kept place ≡ Some kept → kept.rank ≤ place
  pub within : (place : ℕ) (kept : Kept) → slice_get words.kept place ≡ Some kept → kept.thread < words.threads
  pub cells : (place : ℕ) (kept : Kept) → slice_get words.kept place ≡ Some kept → kept.cell < length words.lists
  pub room : words.ready ≡ true → (cell : ℕ) (list : Vec ℕ) → slice_get words.lists cell ≡ Some list → vec_len list < vec_capacity list

-- what was made is well made: numbers rise, a read-modify-write goes on from an earlier store of its cell, no two from one, pairs
-- are of stores, and links lead around no ring
pub record WellMade (made : Made) : Type 0 where
  pub rises : (i j : ℕ) (s t : Store) → slice_get made.stores i ≡ Some s → slice_get made.stores j ≡ Some t → i < j → s.number < t.number
  pub earlier : (b y : ℕ) → GoesOn made.stores b y → IsAdded made.stores y (λ s. y < b)
  pub once : (b c y : ℕ) → GoesOn made.stores b y → GoesOn made.stores c y → b ≡ c
  pub of_cell : (b y : ℕ) → GoesOn made.stores b y → IsAdded made.stores b (λ s. IsAdded made.stores y (λ t. s.cell ≡ t.cell))
  pub positive : (i : ℕ) (s : Store) → slice_get made.stores i ≡ Some s → 0 < s.number
  pub paired : (a b : ℕ) → IsPair made.pairs a b → IsAdded made.stores a (λ s. IsAdded made.stores b (λ t. s.cell ≡ t.cell))
  pub ordered : Ordered made

-- what is kept of the store at a place
pub record IsKept (made : Made) (words : Words) (place : ℕ) (store : Store) : Type 0 where
  pub number : slice_get words.numbers place ≡ Some store.number
  pub kept : Kept
  pub is : slice_get words.kept place ≡ Some kept
  pub cell : kept.cell ≡ store.cell
  pub thread : kept.thread ≡ store.thread
  pub head : ℕ
  pub head_is : slice_get words.numbers kept.head ≡ Some head
  pub chain : Chain made.stores head kept.rank store.number
  pub ends : IsTrue kept.ends ↔ ((b : ℕ) → GoesOn made.stores b store.number → ⊥)

-- the words keep what was made: the clock of a chain stands at the place of its head, and has for each thread the largest of its
-- stores in that chain and those that lead there; the places of no store have clocks that are 0; no link leads on from a chain
-- where none is noted
pub record Tracks (words : Words) (made : Made) : Type 0 where
  pub well : WellMade made
  pub count : length words.numbers ≡ length made.stores
  pub each : (place : ℕ) (store : Store) → slice_get made.stores place ≡ Some store → IsKept made words place store
  pub lists : (cell : ℕ) (list : Vec ℕ) → slice_get words.lists cell ≡ Some list → list.items ≡ stores_of cell made.stores
  pub lasts : (cell thread : ℕ) → cell < length words.lists → thread < words.threads → number_in words.lasts cell thread ≡ number_of (previous made.stores cell thread)
  pub clocks : (place x : ℕ) → slice_get words.numbers place ≡ Some x → (thread : ℕ) → IsLargest (IsInto made thread x) (number_in words.clocks.rows place thread)
  pub clear : (place : ℕ) → length words.numbers ≤ place → (thread : ℕ) → number_in words.clocks.rows place thread ≡ 0
  pub fresh : (place x : ℕ) → slice_get words.numbers place ≡ Some x → slice_get words.clocks.leads place ≡ Some false → (y : ℕ) → Links made x y → ⊥

-- the words stand for what was made
pub record StandsFor (words : Words) (made : Made) : Type 0 where
  pub well : WellMade made
  pub count : length words.numbers ≡ length made.stores
  pub each : (place : ℕ) (store : Store) → slice_get made.stores place ≡ Some store → IsKept made words place store
  pub lists : (cell : ℕ) (list : Vec ℕ) → slice_get words.lists cell ≡ Some list → list.items ≡ stores_of cell made.stores
  pub lasts : (cell thread : ℕ) → cell < length words.lists → thread < words.threads → number_in words.lasts cell thread ≡ number_of (previous made.stores cell thread)
  pub clocks : (place x : ℕ) → slice_get words.numbers place ≡ Some x → (thread : ℕ) → IsLargest (IsInto made thread x) (number_in words.clocks.rows place thread)
  pub clear : (place : ℕ) → length words.numbers ≤ place → (thread : ℕ) → number_in words.clocks.rows place thread ≡ 0
  pub fresh : (place x : ℕ) → slice_get words.numbers place ≡ Some x → slice_get words.clocks.leads place ≡ Some false → (y : ℕ) → Links made x y → ⊥
  pub own : OwnInOrder made

-- the counts with which the graph was opened, and the number of stores, are as they were
pub record HasSameCounts (old new : Words) : Type 0 where
  pub cells : length new.lists ≡ length old.lists
  pub threads : new.threads ≡ old.threads
  pub size : new.size ≡ old.size
  pub stores : length new.numbers ≡ length old.numbers

-- only the clocks, and what is noted of links beside them, may differ
abbrev pub KeepsAllButClocks : Words → Words → Type 0
KeepsAllButClocks old new = new ≡ record old { clocks = new.clocks }

-- there is one store more, and whether there is room for a further one is not said; the counts with which the graph was opened are as
-- they were
pub record AddsOne (old new : Words) : Type 0 where
  pub stores : length new.numbers ≡ length old.numbers + 1
  pub cells : length new.lists ≡ length old.lists
  pub threads : new.threads ≡ old.threads
  pub size : new.size ≡ old.size
