-- What decides whether a store may be read, for private functions alone.
use Rattle.std.specs.Prelude.{ℕ, ◌≡◌, ◌<◌, Bool, true, List, Some, None, slice_get, if◌then◌else◌}
use Rattle.c11_events.specs.declared.event.Event.{Event}
use Rattle.c11_events.specs.declared.event.EventKind.{EventKind}
use Rattle.c11_events.specs.Events.{stored_cell, loaded_cell, is_seq_cst}
use Rattle.c11_events.specs.Values.{value_of}
use Rattle.c11_events.specs.Chains.{Reach}
use Rattle.c11_mayread.specs.declared.asked.Asked.{Asked}
use Rattle.c11_mayread.specs.Asks.{stores_by}
use Rattle.c11_mayread.specs.Priors.{PriorTo, KeepsReadRule}

-- no store that must not follow what e reads is reached from it, and the read rule holds where e is seq_cst
pub record MayFollow (events : List Event) (e : Event) (cell : ℕ) (stores : Bool) : Type 0 where
  pub prior : (a : ℕ) → (a ≡ e.from → ⊥) → PriorTo events e cell stores a → Reach events cell e.from a → ⊥
  pub rule : is_seq_cst e.kind ≡ true → KeepsReadRule events cell e.from

-- where it reads x the operation is an event of this kind
pub record IsAskedAt (asked : Asked) (events : List Event) (kind : EventKind) (x : ℕ) : Type 0 where
  pub loads : loaded_cell kind ≡ Some asked.cell
  pub stores : stored_cell kind ≡ (if stores_by asked.writes (value_of events x) then Some asked.cell else None)
  pub seq_cst : is_seq_cst kind ≡ (if stores_by asked.writes (value_of events x) then asked.seq_cst_store else asked.seq_cst_load)

-- of the first members of the list those for which P holds, rising
pub record ArePicked (P : ℕ → Type 0) (list : List ℕ) (count : ℕ) (picked : List ℕ) : Type 0 where
  pub rises : (i j x y : ℕ) → slice_get picked i ≡ Some x → slice_get picked j ≡ Some y → i < j → x < y
  pub only : (i x : ℕ) → slice_get picked i ≡ Some x → ((k : ℕ) × ((k < count) × (slice_get list k ≡ Some x))) × P x
  pub all : (k x : ℕ) → k < count → slice_get list k ≡ Some x → P x → (i : ℕ) × (slice_get picked i ≡ Some x)
