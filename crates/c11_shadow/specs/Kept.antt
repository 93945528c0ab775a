-- The words that are kept of one cell, and what they decide.
use Rattle.std.specs.Prelude.{ℕ, ◌≡◌, ◌≤◌, ◌-◌, ◌||◌, Bool, true, false, IsTrue, List, [], ◌∷◌, ◌++◌, Some, ◌⊎◌, slice_get, slice_index, slice_set, nat_eq, leb, if◌then◌else◌}
use Rattle.c11_shadow.specs.declared.cell.Kept.{Kept}
use Rattle.c11_shadow.specs.Epochs.{thread_of, number_of}

-- the number of an access that is of another thread and not covered by the clock, else 0
abbrev pub apart_number : ℕ → ℕ → List ℕ → ℕ
apart_number epoch thread clock = if nat_eq (thread_of epoch) thread || leb (number_of epoch) (slice_index clock (thread_of epoch)) then 0 else number_of epoch

-- the largest number among those of these accesses that are apart; 0 where none is
pub record IsNewest (reads : List ℕ) (thread : ℕ) (clock : List ℕ) (newest : ℕ) : Type 0 where
  pub above : (i e : ℕ) → slice_get reads i ≡ Some e → apart_number e thread clock ≤ newest
  pub one : (newest ≡ 0) ⊎ ((i : ℕ) × (e : ℕ) × (slice_get reads i ≡ Some e) × (newest ≡ apart_number e thread clock))

-- the same among those that an access conflicts with: a read with the last write, a write with the reads since too
pub record IsLatest (kept : Kept) (write : Bool) (thread : ℕ) (clock : List ℕ) (latest : ℕ) : Type 0 where
  pub last : apart_number kept.write thread clock ≤ latest
  pub reads : IsTrue write → (i e : ℕ) → slice_get kept.reads.items i ≡ Some e → apart_number e thread clock ≤ latest
  pub one : (latest ≡ 0) ⊎ ((latest ≡ apart_number kept.write thread clock)
      ⊎ (IsTrue write × ((i : ℕ) × (e : ℕ) × (slice_get kept.reads.items i ≡ Some e) × (latest ≡ apart_number e thread clock))))

-- the latest read of a thread stands in the place of its earlier one, or behind all where there is none
pub data IsNoted (old new : List ℕ) (epoch : ℕ) : Type 0 where
  again : (i e : ℕ) → slice_get old i ≡ Some e → thread_of e ≡ thread_of epoch → new ≡ slice_set old i epoch → IsNoted old new epoch
  first : ((i e : ℕ) → slice_get old i ≡ Some e → thread_of e ≡ thread_of epoch → ⊥) → new ≡ old ++ epoch ∷ [] → IsNoted old new epoch

-- a write stands alone; a read stands beside the reads of other threads since the last write
pub record IsAfter (old new : Kept) (epoch : ℕ) (write : Bool) : Type 0 where
  pub written : write ≡ true → (new.write ≡ epoch) × (new.reads.items ≡ [])
  pub noted : write ≡ false → (new.write ≡ old.write) × IsNoted old.reads.items new.reads.items epoch

-- the words of a cell are of threads below this count, and no two reads of one thread
pub record IsSafe (threads : ℕ) (kept : Kept) : Type 0 where
  pub write : thread_of kept.write ≤ threads - 1
  pub within : (i e : ℕ) → slice_get kept.reads.items i ≡ Some e → thread_of e ≤ threads - 1
  pub once : (i j e f : ℕ) → slice_get kept.reads.items i ≡ Some e → slice_get kept.reads.items j ≡ Some f → thread_of e ≡ thread_of f → i ≡ j
