-- Parts of what makes a list chain-lawful.
use Rattle.std.specs.Prelude.{ℕ, ◌≡◌, ◌<◌, ◌≤◌, List, Some, ◌⊎◌}
use Rattle.c11_events.specs.declared.event.Event.{Event}
use Rattle.c11_events.specs.Events.{IsStore, IsLoad, IsRmw, stored_cell}
use Rattle.c11_events.specs.HappensBefore.{HappensBefore, SeqCstBefore}
use Rattle.c11_events.specs.Lawful.{Fenced, SeqCstReads}
use Rattle.c11_events.specs.Chains.{IsRanked, MustPrecede, Links}
use Rattle.c11_plain.specs.Parts.{Joined}
use Rattle.c11_plain.specs.declared.ranks.Rank.{Rank}

-- x stands in its chain as the rank says
pub record HasRank (events : List Event) (cell : ℕ) (x : ℕ) (r : Rank) : Type 0 where
  pub ranked : IsRanked events cell r.head r.rank x
  pub within : r.rank ≤ x

-- x is in the chain that h begins
pub record InChain (events : List Event) (cell h x : ℕ) : Type 0 where
  pub rank : ℕ
  pub ranked : IsRanked events cell h rank x

-- a is not behind b in their chain
pub record KeepsRank (events : List Event) (cell a b : ℕ) : Type 0 where
  pub keeps : (head i j : ℕ) → IsRanked events cell head i a → IsRanked events cell head j b → j < i → ⊥

-- if b and c are read-modify-writes that read the same store, they are one
pub record IsLone (events : List Event) (cell b c : ℕ) : Type 0 where
  pub one : (x : ℕ) → IsRmw events cell b x → IsRmw events cell c x → b ≡ c

-- the same of b and each number below the count
pub record IsLoneBelow (events : List Event) (cell count b : ℕ) : Type 0 where
  pub each : (c : ℕ) → c < count → IsLone events cell b c

-- l reads x, by either name first
abbrev pub Loaded : List Event → ℕ → ℕ → ℕ → Type 0
Loaded events cell x l = IsLoad events cell l x

abbrev pub Chained : List Event → ℕ → ℕ → ℕ → Type 0
Chained events cell x h = InChain events cell h x

-- why a must precede b: by happens-before, or by the order of the seq_cst events and by fences
abbrev pub ByOrder : List Event → ℕ → ℕ → ℕ → Type 0
ByOrder events cell a b =
    (HappensBefore events a b ⊎ Joined (HappensBefore events) (IsLoad events cell) a b)
    ⊎ (Joined (Loaded events cell) (HappensBefore events) a b ⊎ Joined (Joined (Loaded events cell) (HappensBefore events)) (IsLoad events cell) a b)

abbrev pub ByFences : List Event → ℕ → ℕ → ℕ → Type 0
ByFences events cell a b = SeqCstBefore events a b ⊎ (Joined (Fenced events) (IsLoad events cell) a b ⊎ Fenced events a b)

-- a and b are two stores of the cell
pub record AreTwoStores (events : List Event) (cell a b : ℕ) : Type 0 where
  pub first : IsStore events cell a
  pub second : IsStore events cell b
  pub differ : a ≡ b → ⊥

-- no chain is linked to itself
abbrev pub IsAcyclic : List Event → ℕ → Type 0
IsAcyclic events cell = (h : ℕ) → Links events cell h h → ⊥

-- what must precede in a chain stands first in it
abbrev pub KeepsRanks : List Event → ℕ → Type 0
KeepsRanks events cell = (a b head i j : ℕ) → MustPrecede events cell a b → IsRanked events cell head i a → IsRanked events cell head j b → j < i → ⊥

-- what is asked of one cell
pub record IsCellChainLawful (events : List Event) (cell : ℕ) : Type 0 where
  pub acyclic : (h : ℕ) → Links events cell h h → ⊥
  pub ranked : (a b head i j : ℕ) → MustPrecede events cell a b → IsRanked events cell head i a → IsRanked events cell head j b → j < i → ⊥
  pub once : (b c x : ℕ) → IsRmw events cell b x → IsRmw events cell c x → b ≡ c
  pub seq_cst_read : SeqCstReads events cell

-- what is asked of the cell that the event stores to
pub record IsEventChainLawful (events : List Event) (event : Event) : Type 0 where
  pub lawful : (cell : ℕ) → stored_cell event.kind ≡ Some cell → IsCellChainLawful events cell
