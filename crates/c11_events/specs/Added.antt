-- What a further event adds to what must precede what.
use Rattle.std.specs.Prelude.{ℕ, suc, ◌≡◌, ◌≤◌, List, [], ◌∷◌, ◌++◌, Some, length, ◌⊎◌}
use Rattle.c11_events.specs.declared.event.Event.{Event}
use Rattle.c11_events.specs.Events.{IsStore, stored_cell, loaded_cell}
use Rattle.c11_events.specs.HappensBefore.{SeqCstBefore}
use Rattle.c11_events.specs.Chains.{IsRanked, MustPrecede, Reach}
use Rattle.c11_events.specs.Priors.{Prior}

-- what the further event reads, if it reads an atomic cell, is a store of that cell
abbrev pub ReadsStore : List Event → Event → Type 0
ReadsStore events e = (cell : ℕ) → loaded_cell e.kind ≡ Some cell → IsStore events cell e.from

-- the store a of the cell must precede what the further event e writes there: as for what is read, or as seq_cst stores stand in
-- their order
abbrev pub PriorWrite : List Event → Event → ℕ → ℕ → Type 0
PriorWrite events e cell a = Prior events e cell a ⊎ (IsStore events cell a × SeqCstBefore (events ++ e ∷ []) a (suc (length events)))

-- what must precede what, with a further event e
pub record Adds (events : List Event) (e : Event) : Type 0 where
  -- of earlier stores nothing is new but what must precede the store that is read
  pub old : (cell a b : ℕ) → b ≤ length events → ((loaded_cell e.kind ≡ Some cell) × (b ≡ e.from) → ⊥) → MustPrecede (events ++ e ∷ []) cell a b → MustPrecede events cell a b
  -- what must precede that is a prior store, or came before it already
  pub read : (cell a : ℕ) → loaded_cell e.kind ≡ Some cell → MustPrecede (events ++ e ∷ []) cell a e.from → Prior events e cell a ⊎ Reach events cell a e.from
  -- what must precede the new store is a prior one of the write, or what is read, or came before that already
  pub written : (cell a : ℕ) → MustPrecede (events ++ e ∷ []) cell a (suc (length events))
      → PriorWrite events e cell a ⊎ ((loaded_cell e.kind ≡ Some cell) × ((a ≡ e.from) ⊎ Reach events cell a e.from))
  -- prior stores must precede
  pub prior_read : (cell a : ℕ) → loaded_cell e.kind ≡ Some cell → (a ≡ e.from → ⊥) → Prior events e cell a → MustPrecede (events ++ e ∷ []) cell a e.from
  pub prior_write : (cell a : ℕ) → stored_cell e.kind ≡ Some cell → PriorWrite events e cell a → MustPrecede (events ++ e ∷ []) cell a (suc (length events))

-- to reach is a strict order, which holds what must precede; each store has one head and one rank
pub record OrdersStores (events : List Event) (cell : ℕ) : Type 0 where
  pub joins : (a b d : ℕ) → Reach events cell a b → Reach events cell b d → Reach events cell a d
  pub strict : (a : ℕ) → Reach events cell a a → ⊥
  pub must : (a b : ℕ) → MustPrecede events cell a b → Reach events cell a b
  pub ranked : (x : ℕ) → IsStore events cell x → (head rank : ℕ) × IsRanked events cell head rank x
  pub ranked_once : (x h k i j : ℕ) → IsRanked events cell h i x → IsRanked events cell k j x → (h ≡ k) × (i ≡ j)

-- in a longer list all that must precede, and all that is reached, stays
pub record KeepsStores (events more : List Event) (cell : ℕ) : Type 0 where
  pub must : (a b : ℕ) → MustPrecede events cell a b → MustPrecede (events ++ more) cell a b
  pub ranked : (h i x : ℕ) → IsRanked events cell h i x → IsRanked (events ++ more) cell h i x
  pub reached : (a b : ℕ) → Reach events cell a b → Reach (events ++ more) cell a b
