-- The rules of a lawful modification order, one by one.
use Rattle.std.specs.Prelude.{ℕ, ◌<◌, List}
use Rattle.c11_events.specs.declared.event.Event.{Event}
use Rattle.c11_events.specs.Events.{IsStore, IsLoad, IsRmw}
use Rattle.c11_events.specs.HappensBefore.{HappensBefore, SeqCstBefore}
use Rattle.c11_events.specs.Lawful.{Precedes, IsNext, IsModificationOrder, SeqCstReads, IsFencedBefore, IsFencedAfter, IsFencedBetween, Fenced}
use Rattle.c11_plain.specs.declared.broken.Broken.{Broken}
use Rattle.c11_plain.specs.declared.broken.Broken.TheVariants.{ModificationOrder, WriteWriteCoherence, WriteReadCoherence, ReadWriteCoherence, ReadReadCoherence, RmwAtomicity, SeqCstWriteOrder, SeqCstRead, FenceBeforeRead, FenceAfterWrite, FencesBetween, FencesBetweenWrites}

-- how many rules stand before this one
abbrev pub place_of : Broken → ℕ
place_of ModificationOrder = 0
place_of WriteWriteCoherence = 1
place_of WriteReadCoherence = 2
place_of ReadWriteCoherence = 3
place_of ReadReadCoherence = 4
place_of RmwAtomicity = 5
place_of SeqCstWriteOrder = 6
place_of SeqCstRead = 7
place_of FenceBeforeRead = 8
place_of FenceAfterWrite = 9
place_of FencesBetween = 10
place_of FencesBetweenWrites = 11

module _ (events : List Event) (cell : ℕ) (order : List ℕ) where
  -- of two stores that the relation holds of, the first stands first
  abbrev pub WritesInOrder : (ℕ → ℕ → Type 0) → Type 0
  WritesInOrder R = (a b : ℕ) → IsStore events cell a → IsStore events cell b → R a b → Precedes order a b

  -- a load reads nothing older than a store that the relation puts before it
  abbrev pub ReadsNoOlder : (ℕ → ℕ → Type 0) → Type 0
  ReadsNoOlder R = (a l x : ℕ) → IsStore events cell a → IsLoad events cell l x → R a l → Precedes order x a → ⊥

  -- the same of one pair
  pub record ReadsNoOlderThan (a l : ℕ) : Type 0 where
    pub fits : (x : ℕ) → IsLoad events cell l x → IsStore events cell a → Precedes order x a → ⊥

  -- a store that the relation puts behind a load stands behind what the load reads
  abbrev pub WritesAfterReads : (ℕ → ℕ → Type 0) → Type 0
  WritesAfterReads R = (l x b : ℕ) → IsLoad events cell l x → IsStore events cell b → R l b → Precedes order x b

  -- of two loads that the relation holds of, the second reads nothing older than the first
  abbrev pub ReadsInOrder : (ℕ → ℕ → Type 0) → Type 0
  ReadsInOrder R = (l x k y : ℕ) → IsLoad events cell l x → IsLoad events cell k y → R l k → Precedes order y x → ⊥

  -- the same of one pair
  pub record ReadInOrder (l k : ℕ) : Type 0 where
    pub fits : (x : ℕ) → IsLoad events cell l x → (y : ℕ) → IsLoad events cell k y → Precedes order y x → ⊥

  -- each read-modify-write stands right behind what it reads
  abbrev pub RmwsAdjoin : Type 0
  RmwsAdjoin = (b x : ℕ) → IsRmw events cell b x → IsNext order x b

  -- what each rule says
  abbrev pub Rule : Broken → Type 0
  Rule ModificationOrder = IsModificationOrder events cell order
  Rule WriteWriteCoherence = WritesInOrder (HappensBefore events)
  Rule WriteReadCoherence = ReadsNoOlder (HappensBefore events)
  Rule ReadWriteCoherence = WritesAfterReads (HappensBefore events)
  Rule ReadReadCoherence = ReadsInOrder (HappensBefore events)
  Rule RmwAtomicity = RmwsAdjoin
  Rule SeqCstWriteOrder = WritesInOrder (SeqCstBefore events)
  Rule SeqCstRead = SeqCstReads events cell
  Rule FenceBeforeRead = ReadsNoOlder (IsFencedBefore events)
  Rule FenceAfterWrite = ReadsNoOlder (IsFencedAfter events)
  Rule FencesBetween = ReadsNoOlder (IsFencedBetween events)
  Rule FencesBetweenWrites = WritesInOrder (Fenced events)

  -- the rule is broken, and each one before it holds
  pub record IsFirstBroken (broken : Broken) : Type 0 where
    pub is : Rule broken → ⊥
    pub others : (other : Broken) → place_of other < place_of broken → Rule other
