-- What the parts of a call find and change, for private functions alone.
use Rattle.std.specs.Prelude.{ℕ, ◌≡◌, ◌<◌, ◌≤◌, ◌+◌, ◌↔◌, ◌++◌, ◌∷◌, [], true, false, Bool, IsTrue, Option, Some, None, length, slice_get, slice_set}
use Rattle.c11_mograph.specs.declared.kept.Kept.{Kept}
use Rattle.c11_clock.specs.Clocks.{joined, HasBelow}
use Rattle.c11_mograph.specs.Clocks.{IsInto, IsLargest, IsGrownAt}
use Rattle.c11_mograph.specs.Spread.{row, number_in, with_number, AreWide, IsSpread}
use Rattle.c11_mograph.specs.Lists.{HasPushed}
use Rattle.c11_mograph.specs.Made.{Made, Links, AreRising}
use Rattle.c11_mograph.specs.Words.{Words, WellMade, KeepsAllButClocks}

-- the place j is reached from i: by rank in one chain, else by the clock of j's chain
pub record ReachesPlace (words : Words) (i j : ℕ) (reached : Bool) : Type 0 where
  pub a : Kept
  pub b : Kept
  pub number : ℕ
  pub first : slice_get words.kept i ≡ Some a
  pub second : slice_get words.kept j ≡ Some b
  pub at : slice_get words.numbers i ≡ Some number
  pub within : a.head ≡ b.head → IsTrue reached ↔ (a.rank < b.rank)
  pub across : (a.head ≡ b.head → ⊥) → a.cell ≡ b.cell → IsTrue reached ↔ (number ≤ number_in words.clocks.rows b.head a.thread)
  pub apart : (a.head ≡ b.head → ⊥) → (a.cell ≡ b.cell → ⊥) → reached ≡ false

-- there is a clock, and what is kept, for each number, and a last store of each thread for each cell
pub record AreSized (words : Words) : Type 0 where
  pub each : length words.kept ≡ length words.numbers
  pub few : length words.numbers ≤ length words.clocks.rows
  pub leads : length words.clocks.leads ≡ length words.numbers
  pub wide : AreWide words.threads words.clocks.rows
  pub lasts : length words.lasts ≡ length words.lists
  pub wide_lasts : AreWide words.threads words.lasts

-- the clock of the chain whose head is at the place was taken over by those of the chains that cover its head, if a link leads on
-- from it
pub record SpreadsFrom (old new : Words) (from : ℕ) : Type 0 where
  pub rest : new ≡ record old { clocks = record old.clocks { rows = new.clocks.rows } }
  pub number : ℕ
  pub kept : Kept
  pub at : slice_get old.numbers from ≡ Some number
  pub is : slice_get old.kept from ≡ Some kept
  pub sized : AreSized old
  pub fresh : slice_get old.clocks.leads from ≡ Some false → new ≡ old
  pub spread : slice_get old.clocks.leads from ≡ Some true → IsSpread old.kept old.clocks.rows new.clocks.rows 0 from kept.cell kept.thread number

-- the clock at `to` took over that at `from`, from which a link leads on now, unless they are one
pub record JoinsChains (old new : Words) (from to : ℕ) (raised : Bool) : Type 0 where
  pub same : from ≡ to → (new ≡ old) × (raised ≡ false)
  pub joins : (from ≡ to → ⊥) → new ≡ record old { clocks = record { rows = slice_set old.clocks.rows to (joined (row old.clocks.rows to) (row old.clocks.rows from)); leads = slice_set old.clocks.leads from true } }
  pub raises : (from ≡ to → ⊥) → IsTrue raised ↔ HasBelow (row old.clocks.rows to) (row old.clocks.rows from)
  pub sized : (from ≡ to → ⊥) → AreSized old

-- the clock at `to` took over that of the chain of p
pub record TakesIn (old new : Words) (p to : ℕ) (raised : Bool) : Type 0 where
  pub rest : KeepsAllButClocks old new
  pub joins : AreRising old.numbers → (i : ℕ) (k : Kept) → slice_get old.numbers i ≡ Some p → slice_get old.kept i ≡ Some k → JoinsChains old new k.head to raised

-- at the place `to` is h, the head of the chain of x
pub record IsHeadOf (words : Words) (x to h : ℕ) : Type 0 where
  pub place : ℕ
  pub kept : Kept
  pub at : slice_get words.numbers place ≡ Some x
  pub is : slice_get words.kept place ≡ Some kept
  pub head : kept.head ≡ to
  pub number : slice_get words.numbers to ≡ Some h

-- what was made has grown at the chain whose head h is at the place `to`: its clock alone grew with it, and notes of links
pub record Gathers (old new : Words) (made made' : Made) (to h : ℕ) (raised : Bool) : Type 0 where
  pub rest : KeepsAllButClocks old new
  pub well : WellMade made'
  pub grown : IsGrownAt made made' h
  pub others : (place : ℕ) → (place ≡ to → ⊥) → row new.clocks.rows place ≡ row old.clocks.rows place
  pub largest : (thread : ℕ) → IsLargest (IsInto made' thread h) (number_in new.clocks.rows to thread)
  pub fresh : (place x : ℕ) → slice_get old.numbers place ≡ Some x → slice_get new.clocks.leads place ≡ Some false → (y : ℕ) → Links made' x y → ⊥
  pub same : raised ≡ false → row new.clocks.rows to ≡ row old.clocks.rows to

-- the clock at the head's place has the store's number for its thread, and the chains that are reached took that over
pub record NotesStore (old new : Words) (after : Option ℕ) (head thread number : ℕ) : Type 0 where
  pub begins : after ≡ None → new ≡ record old { clocks = record old.clocks { rows = with_number old.clocks.rows head thread number } }
  pub goes_on : (y : ℕ) → after ≡ Some y → SpreadsFrom (record old { clocks = record old.clocks { rows = with_number old.clocks.rows head thread number } }) new head
  pub rest : KeepsAllButClocks old new

-- a store that begins a chain is its own head; one that goes on from y is in y's chain, one rank later
pub record IsChained (words : Words) (after : Option ℕ) (head rank : ℕ) : Type 0 where
  pub begins : after ≡ None → (head ≡ length words.numbers) × (rank ≡ 0)
  pub goes_on : (y i : ℕ) (k : Kept) → after ≡ Some y → AreRising words.numbers → slice_get words.numbers i ≡ Some y → slice_get words.kept i ≡ Some k → (head ≡ k.head) × (rank ≡ k.rank + 1)
  pub head_within : head ≤ length words.numbers
  pub rank_within : rank ≤ length words.numbers
  pub few : length words.numbers < length words.clocks.rows
  pub sized : AreSized words

-- that a store goes on from y is kept; all else is as it was
pub record Marks (old new : Words) (y : ℕ) : Type 0 where
  pub rest : new ≡ record old { kept = new.kept }
  pub count : length new.kept ≡ length old.kept
  pub here : AreRising old.numbers → (i : ℕ) (k : Kept) → slice_get old.numbers i ≡ Some y → slice_get old.kept i ≡ Some k → slice_get new.kept i ≡ Some (record k { ends = false })
  pub others : (i : ℕ) (k : Kept) → (slice_get old.numbers i ≡ Some y → ⊥) → slice_get old.kept i ≡ Some k → slice_get new.kept i ≡ Some k

-- that a store goes on from `after` is kept, if one does
pub record MarksAfter (old new : Words) (after : Option ℕ) : Type 0 where
  pub begins : after ≡ None → new ≡ old
  pub marks : (y : ℕ) → after ≡ Some y → Marks old new y
  pub rest : new ≡ record old { kept = new.kept }
  pub count : length new.kept ≡ length old.kept

-- a further store is kept, behind the others and in the list of its cell; no link leads on from it
pub record Pushes (old new : Words) (number : ℕ) (kept : Kept) : Type 0 where
  pub numbers : new.numbers ≡ old.numbers ++ number ∷ []
  pub older : ℕ
  pub all : new.kept ≡ old.kept ++ record kept { older = older } ∷ []
  pub lists : HasPushed old.lists new.lists kept.cell number
  pub lasts : new.lasts ≡ with_number old.lasts kept.cell kept.thread number
  pub threads : new.threads ≡ old.threads
  pub size : new.size ≡ old.size
  pub clocks : new.clocks ≡ record { rows = old.clocks.rows; leads = old.clocks.leads ++ false ∷ [] }
