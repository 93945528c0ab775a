-- What the lists of prior stores have to be.
use Rattle.std.specs.Prelude.{ℕ, suc, ◌≡◌, Bool, List, [], ◌∷◌, ◌++◌, Some, length, ◌⊎◌}
use Rattle.c11_events.specs.declared.event.Event.{Event}
use Rattle.c11_events.specs.Events.{IsStore, stored_cell, loaded_cell}
use Rattle.c11_events.specs.Chains.{MustPrecede, Reach}
use Rattle.c11_events.specs.Added.{ReadsStore}
use Rattle.c11_mayread.specs.Priors.{In, IsNextOf}

-- of each next event of the thread, seq_cst or not, that reads a store of the cell: each member other than that store must precede it,
-- and each store that must precede it reaches it already, or is a member, or reaches one
abbrev pub PriorReads : List Event → ℕ → ℕ → Bool → List ℕ → Type 0
PriorReads events thread cell is_sc list = (e : Event) → IsNextOf thread is_sc e → loaded_cell e.kind ≡ Some cell → IsStore events cell e.from
    → ((p : ℕ) → In list p → (p ≡ e.from → ⊥) → MustPrecede (events ++ e ∷ []) cell p e.from)
    × ((a : ℕ) → MustPrecede (events ++ e ∷ []) cell a e.from → Reach events cell a e.from ⊎ ((p : ℕ) × (In list p × ((a ≡ p) ⊎ Reach events cell a p))))

-- of each next event of the thread, seq_cst or not, that stores to the cell: each member must precede it, and each store that must
-- precede it is a member or reaches one, or is or reaches what the event reads
abbrev pub PriorWrites : List Event → ℕ → ℕ → Bool → List ℕ → Type 0
PriorWrites events thread cell is_sc list = (e : Event) → IsNextOf thread is_sc e → stored_cell e.kind ≡ Some cell → ReadsStore events e
    → ((p : ℕ) → In list p → MustPrecede (events ++ e ∷ []) cell p (suc (length events)))
    × ((a : ℕ) → MustPrecede (events ++ e ∷ []) cell a (suc (length events)) → ((p : ℕ) × (In list p × ((a ≡ p) ⊎ Reach events cell a p)))
    ⊎ ((loaded_cell e.kind ≡ Some cell) × ((a ≡ e.from) ⊎ Reach events cell a e.from)))
