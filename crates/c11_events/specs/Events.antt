-- The events of a list by their numbers, which count from 1, and what they do.
use Rattle.std.specs.Prelude.{ℕ, zero, suc, ◌≡◌, ◌<◌, Bool, true, false, List, Option, Some, None, slice_get}
use Rattle.c11_events.specs.declared.order.Order.{Order}
use Rattle.c11_events.specs.declared.order.Order.TheVariants.{Consume, Acquire, Release, AcqRel, SeqCst}
use Rattle.c11_events.specs.declared.event.EventKind.{EventKind}
use Rattle.c11_events.specs.declared.event.EventKind.TheVariants.{Init, AtomicLoad, AtomicStore, Rmw, Fence, PlainRead, PlainWrite, MutexInit, Lock, TryLock, Unlock, Create, End, Join}
use Rattle.c11_events.specs.declared.event.Event.{Event}

-- the event with the number a, if there is one
abbrev pub event_at : List Event → ℕ → Option Event
event_at events zero = None
event_at events (suc place) = slice_get events place

-- there is an event with the number a, and P holds for it
pub record At (events : List Event) (a : ℕ) (P : Event → Type 0) : Type 0 where
  pub event : Event
  pub is : event_at events a ≡ Some event
  pub holds : P event

-- the atomic cell that a store writes: a store is an Init, an atomic store or a read-modify-write
abbrev pub stored_cell : EventKind → Option ℕ
stored_cell (Init cell value) = Some cell
stored_cell (AtomicStore cell order value) = Some cell
stored_cell (Rmw cell order kind operand) = Some cell
stored_cell _ = None

-- the atomic cell that a load reads: a load is an atomic load or a read-modify-write
abbrev pub loaded_cell : EventKind → Option ℕ
loaded_cell (AtomicLoad cell order) = Some cell
loaded_cell (Rmw cell order kind operand) = Some cell
loaded_cell _ = None

-- the plain cell that is read
abbrev pub read_cell : EventKind → Option ℕ
read_cell (PlainRead cell) = Some cell
read_cell _ = None

-- the plain cell that is written
abbrev pub written_cell : EventKind → Option ℕ
written_cell (PlainWrite cell value) = Some cell
written_cell _ = None

-- the orders of a release (C11 7.17.3)
abbrev pub releases : Order → Bool
releases Release = true
releases AcqRel = true
releases SeqCst = true
releases _ = false

-- the orders of an acquire; consume is treated as acquire (C11 7.17.3; the latter is this project's own)
abbrev pub acquires : Order → Bool
acquires Consume = true
acquires Acquire = true
acquires AcqRel = true
acquires SeqCst = true
acquires _ = false

abbrev pub is_seq_cst_order : Order → Bool
is_seq_cst_order SeqCst = true
is_seq_cst_order _ = false

-- a store is no acquire, and a load no release, whatever its order
abbrev pub is_release_store : EventKind → Bool
is_release_store (AtomicStore cell order value) = releases order
is_release_store (Rmw cell order kind operand) = releases order
is_release_store _ = false

abbrev pub is_acquire_load : EventKind → Bool
is_acquire_load (AtomicLoad cell order) = acquires order
is_acquire_load (Rmw cell order kind operand) = acquires order
is_acquire_load _ = false

abbrev pub is_fence : EventKind → Bool
is_fence (Fence order) = true
is_fence _ = false

abbrev pub is_release_fence : EventKind → Bool
is_release_fence (Fence order) = releases order
is_release_fence _ = false

abbrev pub is_acquire_fence : EventKind → Bool
is_acquire_fence (Fence order) = acquires order
is_acquire_fence _ = false

abbrev pub is_seq_cst : EventKind → Bool
is_seq_cst (AtomicLoad cell order) = is_seq_cst_order order
is_seq_cst (AtomicStore cell order value) = is_seq_cst_order order
is_seq_cst (Rmw cell order kind operand) = is_seq_cst_order order
is_seq_cst (Fence order) = is_seq_cst_order order
is_seq_cst _ = false

abbrev pub initialised_mutex : EventKind → Option ℕ
initialised_mutex (MutexInit mutex) = Some mutex
initialised_mutex _ = None

abbrev pub locked_mutex : EventKind → Option ℕ
locked_mutex (Lock mutex) = Some mutex
locked_mutex (TryLock mutex) = Some mutex
locked_mutex _ = None

abbrev pub unlocked_mutex : EventKind → Option ℕ
unlocked_mutex (Unlock mutex) = Some mutex
unlocked_mutex _ = None

abbrev pub is_create : EventKind → Bool
is_create (Create function argument) = true
is_create _ = false

abbrev pub is_end : EventKind → Bool
is_end (End value) = true
is_end _ = false

abbrev pub joined_thread : EventKind → Option ℕ
joined_thread (Join thread) = Some thread
joined_thread _ = None

-- x is a store of the cell
abbrev pub IsStore : List Event → ℕ → ℕ → Type 0
IsStore events cell x = At events x (λ e. stored_cell e.kind ≡ Some cell)

-- l is a load of the cell that reads x
abbrev pub IsLoad : List Event → ℕ → ℕ → ℕ → Type 0
IsLoad events cell l x = At events l (λ e. (loaded_cell e.kind ≡ Some cell) × (e.from ≡ x))

-- b is a read-modify-write of the cell that reads x
abbrev pub IsRmw : List Event → ℕ → ℕ → ℕ → Type 0
IsRmw events cell b x = At events b (λ e. (stored_cell e.kind ≡ Some cell) × (loaded_cell e.kind ≡ Some cell) × (e.from ≡ x))

-- each load reads an earlier store of its cell
abbrev pub ReadsEarlier : List Event → Type 0
ReadsEarlier events = (cell l x : ℕ) → IsLoad events cell l x → IsStore events cell x × (x < l)
