-- The orders of the stores of a cell, and which of them are lawful (C11 5.1.2.4 and 7.17.3; `fences_between_writes` and the wording
-- of `SeqCstReads` are this project's own).
use Rattle.std.specs.Prelude.{ℕ, suc, ◌≡◌, ◌<◌, ◌≤◌, true, List, Some, slice_get, length, ◌⊎◌}
use Rattle.c11_events.specs.declared.event.Event.{Event}
use Rattle.c11_events.specs.Events.{At, IsStore, IsLoad, IsRmw, ReadsEarlier, is_fence}
use Rattle.c11_events.specs.HappensBefore.{ProgramOrder, HappensBefore, IsSeqCst, SeqCstBefore}

-- x stands before y in the order
pub record Precedes (order : List ℕ) (x y : ℕ) : Type 0 where
  pub i : ℕ
  pub j : ℕ
  pub first : slice_get order i ≡ Some x
  pub second : slice_get order j ≡ Some y
  pub places : i < j

-- y stands immediately after x in the order
pub record IsNext (order : List ℕ) (x y : ℕ) : Type 0 where
  pub place : ℕ
  pub first : slice_get order place ≡ Some x
  pub second : slice_get order (suc place) ≡ Some y

-- the order has each store of the cell, once, and nothing else
pub record IsModificationOrder (events : List Event) (cell : ℕ) (order : List ℕ) : Type 0 where
  pub once : (i j x : ℕ) → slice_get order i ≡ Some x → slice_get order j ≡ Some x → i ≡ j
  pub all : (x : ℕ) → IsStore events cell x → (i : ℕ) × (slice_get order i ≡ Some x)
  pub only : (x i : ℕ) → slice_get order i ≡ Some x → IsStore events cell x

abbrev pub IsFence : List Event → ℕ → Type 0
IsFence events f = At events f (λ e. is_fence e.kind ≡ true)

-- a is seq_cst and before a seq_cst fence, which is before n in its thread
pub record IsFencedBefore (events : List Event) (a n : ℕ) : Type 0 where
  pub f : ℕ
  pub fence : IsFence events f
  pub first : SeqCstBefore events a f
  pub second : ProgramOrder events f n

-- a is before a seq_cst fence of its thread, which is before n, and n is seq_cst
pub record IsFencedAfter (events : List Event) (a n : ℕ) : Type 0 where
  pub f : ℕ
  pub fence : IsFence events f
  pub first : ProgramOrder events a f
  pub second : SeqCstBefore events f n

-- a is before a seq_cst fence of its thread, that before another, and that before n in its thread
pub record IsFencedBetween (events : List Event) (a n : ℕ) : Type 0 where
  pub f : ℕ
  pub g : ℕ
  pub fence : IsFence events f
  pub other : IsFence events g
  pub first : ProgramOrder events a f
  pub between : SeqCstBefore events f g
  pub second : ProgramOrder events g n

-- seq_cst fences hold a before n in one of the three ways
pub data Fenced (events : List Event) (a n : ℕ) : Type 0 where
  before : IsFencedBefore events a n → Fenced events a n
  after : IsFencedAfter events a n → Fenced events a n
  between : IsFencedBetween events a n → Fenced events a n

-- a is the last seq_cst store of the cell before the seq_cst event l
pub record IsLastSeqCst (events : List Event) (cell l a : ℕ) : Type 0 where
  pub store : IsStore events cell a
  pub before : SeqCstBefore events a l
  pub last : (b : ℕ) → IsStore events cell b → SeqCstBefore events b l → b ≤ a

-- a seq_cst load reads the last seq_cst store before it, or a store that is not seq_cst and does not happen before that one (after
-- C11 7.17.3, paragraph 6)
abbrev pub SeqCstReads : List Event → ℕ → Type 0
SeqCstReads events cell = (l x a : ℕ) → IsLoad events cell l x → IsLastSeqCst events cell l a → (x ≡ a) ⊎ ((IsSeqCst events x → ⊥) × (HappensBefore events x a → ⊥))

-- the eleven rules of a lawful modification order, for stores a, b, x, y of the cell and loads l, k of it that read x, y
pub record Lawful (events : List Event) (cell : ℕ) (order : List ℕ) : Type 0 where
  pub stores : IsModificationOrder events cell order
  pub write_write_coherence : (a b : ℕ) → IsStore events cell a → IsStore events cell b → HappensBefore events a b → Precedes order a b
  pub write_read_coherence : (a l x : ℕ) → IsStore events cell a → IsLoad events cell l x → HappensBefore events a l → Precedes order x a → ⊥
  pub read_write_coherence : (l x b : ℕ) → IsLoad events cell l x → IsStore events cell b → HappensBefore events l b → Precedes order x b
  pub read_read_coherence : (l x k y : ℕ) → IsLoad events cell l x → IsLoad events cell k y → HappensBefore events l k → Precedes order y x → ⊥
  pub rmw_atomicity : (b x : ℕ) → IsRmw events cell b x → IsNext order x b
  pub seq_cst_write_order : (a b : ℕ) → IsStore events cell a → IsStore events cell b → SeqCstBefore events a b → Precedes order a b
  pub seq_cst_read : SeqCstReads events cell
  pub fence_before_read : (a l x : ℕ) → IsStore events cell a → IsLoad events cell l x → IsFencedBefore events a l → Precedes order x a → ⊥
  pub fence_after_write : (a l x : ℕ) → IsStore events cell a → IsLoad events cell l x → IsFencedAfter events a l → Precedes order x a → ⊥
  pub fences_between : (a l x : ℕ) → IsStore events cell a → IsLoad events cell l x → IsFencedBetween events a l → Precedes order x a → ⊥
  pub fences_between_writes : (a b : ℕ) → IsStore events cell a → IsStore events cell b → Fenced events a b → Precedes order a b

-- each load reads an earlier store, and each cell has a lawful modification order
pub record Consistent (events : List Event) : Type 0 where
  pub reads : ReadsEarlier events
  pub orders : ℕ → List ℕ
  pub lawful : (cell : ℕ) → Lawful events cell (orders cell)

-- x is the last of the order
pub record IsLastOf (order : List ℕ) (x : ℕ) : Type 0 where
  pub place : ℕ
  pub is : slice_get order place ≡ Some x
  pub last : length order ≡ suc place

-- x is the store of the cell with the largest number
pub record IsLastStore (events : List Event) (cell x : ℕ) : Type 0 where
  pub store : IsStore events cell x
  pub last : (y : ℕ) → IsStore events cell y → y ≤ x
