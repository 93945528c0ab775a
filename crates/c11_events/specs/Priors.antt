-- What a thread's next event that reads a store must respect.
use Rattle.std.specs.Prelude.{ℕ, suc, ◌≡◌, List, [], ◌∷◌, ◌++◌, Some, length, ◌⊎◌}
use Rattle.c11_events.specs.declared.event.Event.{Event}
use Rattle.c11_events.specs.Events.{IsStore, IsLoad, IsRmw, stored_cell}
use Rattle.c11_events.specs.HappensBefore.{ProgramOrder, CreateBeforeFirst, HappensBefore, IsSeqCst, SeqCstBefore}
use Rattle.c11_events.specs.Lawful.{Fenced, IsLastSeqCst}
use Rattle.c11_events.specs.Chains.{MustPrecede, Reach}

-- what a further event e that reads a store of the cell must keep: no store that must now precede the one that is read, or e
-- itself, is reached from it; a read-modify-write is the only one that reads it; and the read rule of seq_cst
pub record Fits (events : List Event) (e : Event) (cell : ℕ) : Type 0 where
  pub prior_read : (a : ℕ) → MustPrecede (events ++ e ∷ []) cell a e.from → Reach events cell e.from a → ⊥
  pub prior_write : (a : ℕ) → (a ≡ e.from → ⊥) → MustPrecede (events ++ e ∷ []) cell a (suc (length events)) → Reach events cell e.from a → ⊥
  pub ends_chain : IsRmw (events ++ e ∷ []) cell (suc (length events)) e.from → (b : ℕ) → IsRmw events cell b e.from → ⊥
  pub seq_cst_read : (a : ℕ) → IsLastSeqCst (events ++ e ∷ []) cell (suc (length events)) a
      → (e.from ≡ a) ⊎ ((IsSeqCst (events ++ e ∷ []) e.from → ⊥) × (HappensBefore (events ++ e ∷ []) e.from a → ⊥))

-- a is, or happens before, an earlier event of the thread of the further event e, or the Create of that thread where e is its
-- first event: what happens before e otherwise than by its reading
pub record IsKnown (events : List Event) (e : Event) (a : ℕ) : Type 0 where
  pub m : ℕ
  pub last : ProgramOrder (events ++ e ∷ []) m (suc (length events)) ⊎ CreateBeforeFirst (events ++ e ∷ []) m (suc (length events))
  pub leads : (a ≡ m) ⊎ HappensBefore events a m

-- the store a must not follow what e reads
pub data Prior (events : List Event) (e : Event) (cell a : ℕ) : Type 0 where
  known_store : IsStore events cell a → IsKnown events e a → Prior events e cell a
  known_load : {l : ℕ} → IsLoad events cell l a → IsKnown events e l → Prior events e cell a
  fenced : IsStore events cell a → Fenced (events ++ e ∷ []) a (suc (length events)) → Prior events e cell a

-- the same as `Fits`, asked only of what the thread knew before it read
pub record FitsPriors (events : List Event) (e : Event) (cell : ℕ) : Type 0 where
  pub prior : (a : ℕ) → (a ≡ e.from → ⊥) → Prior events e cell a → Reach events cell e.from a → ⊥
  pub prior_seq_cst : (a : ℕ) → (a ≡ e.from → ⊥) → stored_cell e.kind ≡ Some cell → IsStore events cell a
      → SeqCstBefore (events ++ e ∷ []) a (suc (length events)) → Reach events cell e.from a → ⊥
  pub ends_chain : stored_cell e.kind ≡ Some cell → (b : ℕ) → IsRmw events cell b e.from → ⊥
  pub seq_cst_read : (a : ℕ) → IsLastSeqCst (events ++ e ∷ []) cell (suc (length events)) a
      → (e.from ≡ a) ⊎ ((IsSeqCst (events ++ e ∷ []) e.from → ⊥) × (HappensBefore events e.from a → ⊥))
