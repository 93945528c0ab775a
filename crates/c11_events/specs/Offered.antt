-- The stores that a read may name.
use Rattle.std.specs.Prelude.{ℕ, ◌≡◌, ◌+◌, ◌<◌, List, [], ◌∷◌, ◌++◌, Option, Some, None, slice_get, length, if◌then◌else◌}
use Rattle.std.specs.Ordering.{int_eq}
use Rattle.c11_num.specs.declared.kind.RmwKind.TheVariants.{Exchange}
use Rattle.c11_events.specs.declared.op.Op.{Op}
use Rattle.c11_events.specs.declared.op.Op.TheVariants as op
use Rattle.c11_events.specs.declared.event.EventKind.{EventKind}
use Rattle.c11_events.specs.declared.event.EventKind.TheVariants.{AtomicLoad, Rmw}
use Rattle.c11_events.specs.declared.event.Event.{Event}
use Rattle.c11_events.specs.Events.{IsStore}
use Rattle.c11_events.specs.Values.{value_of}
use Rattle.c11_events.specs.EventOf.{kind_of}
use Rattle.c11_events.specs.declared.reply.Reply.TheVariants.{Done}
use Rattle.c11_events.specs.Lawful.{Consistent}
use Rattle.c11_events.specs.Chains.{ChainLawful}

-- the list with one event more, of the thread, that reads x; `reading` is what the operation becomes when it reads x
abbrev pub extended : List Event → ℕ → (ℕ → EventKind) → ℕ → List Event
extended events thread reading x = events ++ record { number = length events + 1; thread = thread; kind = reading x; from = x } ∷ []

-- a store of the cell whose reading keeps the list consistent
pub record IsOffered (events : List Event) (thread : ℕ) (reading : ℕ → EventKind) (cell x : ℕ) : Type 0 where
  pub store : IsStore events cell x
  pub consistent : Consistent (extended events thread reading x)

-- a store of the cell whose reading keeps the list chain-lawful
pub record IsChainOffered (events : List Event) (thread : ℕ) (reading : ℕ → EventKind) (cell x : ℕ) : Type 0 where
  pub store : IsStore events cell x
  pub lawful : ChainLawful (extended events thread reading x)

-- the rising list of the numbers for which P holds
pub record IsRisingList (P : ℕ → Type 0) (numbers : List ℕ) : Type 0 where
  pub rises : (i j x y : ℕ) → slice_get numbers i ≡ Some x → slice_get numbers j ≡ Some y → i < j → x < y
  pub only : (i x : ℕ) → slice_get numbers i ≡ Some x → P x
  pub all : (x : ℕ) → P x → (i : ℕ) × (slice_get numbers i ≡ Some x)

abbrev pub Offered : List Event → ℕ → (ℕ → EventKind) → ℕ → List ℕ → Type 0
Offered events thread reading cell = IsRisingList (IsOffered events thread reading cell)

abbrev pub ChainOffered : List Event → ℕ → (ℕ → EventKind) → ℕ → List ℕ → Type 0
ChainOffered events thread reading cell = IsRisingList (IsChainOffered events thread reading cell)

-- the atomic cell that the operation reads
abbrev pub op_cell : Op → Option ℕ
op_cell (op.AtomicLoad cell order) = Some cell
op_cell (op.Rmw cell order kind operand) = Some cell
op_cell (op.CompareExchange cell success failure weak expected desired) = Some cell
op_cell _ = None

-- what the operation becomes when it reads the store x: a compare-exchange is a read-modify-write where the value is the
-- expected one, and else a load (C11 7.17.7.4); both have the type of the cell, so their numbers decide
abbrev pub op_reading : List Event → Op → ℕ → EventKind
op_reading events (op.CompareExchange cell success failure weak expected desired) x =
    if int_eq (value_of events x).number expected.number then Rmw cell success Exchange desired else AtomicLoad cell failure
op_reading events other x = kind_of other Done
