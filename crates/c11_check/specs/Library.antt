-- The names of the library: what they denote, what its functions want and answer (C11 7.2, 7.17, 7.19, 7.21 and 7.26).
use Rattle.std.specs.Prelude.{ℕ, Bool, true, false, List, [], ◌∷◌, Option, Some, None, pos, codes, if◌then◌else◌}
use Rattle.std.specs.Str.{bytes_eq}
use Rattle.c11_num.specs.Ranges.{TypedNumber}
use Rattle.c11_num.specs.declared.value.CType.{CType}
use Rattle.c11_num.specs.declared.value.CType.TheVariants.{Int, Long}
use Rattle.c11_num.specs.declared.kind.RmwKind.TheVariants as kind
use Rattle.c11_events.specs.declared.order.Order.TheVariants as order
use Rattle.c11_events.specs.declared.order.OrderUse.TheVariants as use_
use Rattle.c11_check.specs.declared.library.Library.{Library}
use Rattle.c11_check.specs.declared.library.Library.TheVariants as l
use Rattle.c11_check.specs.declared.library.LibraryConstant.{LibraryConstant}
use Rattle.c11_check.specs.declared.library.LibraryConstant.TheVariants as c
use Rattle.c11_check.specs.declared.library.Want.{Want}
use Rattle.c11_check.specs.declared.library.Want.TheVariants as want
use Rattle.c11_check.specs.declared.entity.Entity.{Entity}
use Rattle.c11_check.specs.declared.entity.Entity.TheVariants as e

abbrev pub Table : Type 0
Table = List (List ℕ × Entity)

-- what a table has for a name
abbrev pub look_up : Table → List ℕ → Option Entity
look_up [] name = None
look_up (entry ∷ table) name = if bytes_eq name entry.0 then Some entry.1 else look_up table name

abbrev pub or_else : Option Entity → Option Entity → Option Entity
or_else (Some entity) other = Some entity
or_else None other = other

-- ---- names (C11 7.17.7, 7.17.4.1, 7.26.4, 7.26.5, 7.2.1.1, 7.21.6.3; 7.26.1, 7.26.4, 7.19; 7.17.3)

abbrev pub transfers : Table
transfers = (codes "atomic_load", e.Library (l.Load false)) ∷ (codes "atomic_load_explicit", e.Library (l.Load true))
    ∷ (codes "atomic_store", e.Library (l.Store false)) ∷ (codes "atomic_store_explicit", e.Library (l.Store true))
    ∷ (codes "atomic_exchange", e.Library (l.ReadWrite kind.Exchange false)) ∷ (codes "atomic_exchange_explicit", e.Library (l.ReadWrite kind.Exchange true)) ∷ []

abbrev pub fetches : Table
fetches = (codes "atomic_fetch_add", e.Library (l.ReadWrite kind.Add false)) ∷ (codes "atomic_fetch_add_explicit", e.Library (l.ReadWrite kind.Add true))
    ∷ (codes "atomic_fetch_sub", e.Library (l.ReadWrite kind.Sub false)) ∷ (codes "atomic_fetch_sub_explicit", e.Library (l.ReadWrite kind.Sub true))
    ∷ (codes "atomic_fetch_and", e.Library (l.ReadWrite kind.And false)) ∷ (codes "atomic_fetch_and_explicit", e.Library (l.ReadWrite kind.And true))
    ∷ (codes "atomic_fetch_or", e.Library (l.ReadWrite kind.Or false)) ∷ (codes "atomic_fetch_or_explicit", e.Library (l.ReadWrite kind.Or true))
    ∷ (codes "atomic_fetch_xor", e.Library (l.ReadWrite kind.Xor false)) ∷ (codes "atomic_fetch_xor_explicit", e.Library (l.ReadWrite kind.Xor true)) ∷ []

abbrev pub exchanges : Table
exchanges = (codes "atomic_compare_exchange_strong", e.Library (l.CompareExchange false false))
    ∷ (codes "atomic_compare_exchange_strong_explicit", e.Library (l.CompareExchange false true))
    ∷ (codes "atomic_compare_exchange_weak", e.Library (l.CompareExchange true false))
    ∷ (codes "atomic_compare_exchange_weak_explicit", e.Library (l.CompareExchange true true)) ∷ (codes "atomic_thread_fence", e.Library l.Fence) ∷ []

abbrev pub threads : Table
threads = (codes "mtx_init", e.Library l.MutexInit) ∷ (codes "mtx_lock", e.Library l.MutexLock) ∷ (codes "mtx_trylock", e.Library l.MutexTryLock)
    ∷ (codes "mtx_unlock", e.Library l.MutexUnlock) ∷ (codes "mtx_destroy", e.Library l.MutexDestroy) ∷ (codes "thrd_yield", e.Library l.Yield)
    ∷ (codes "thrd_create", e.Library l.Create) ∷ (codes "thrd_join", e.Library l.Join) ∷ (codes "assert", e.Library l.Assert)
    ∷ (codes "printf", e.Library l.Print) ∷ []

abbrev pub constants : Table
constants = (codes "thrd_success", e.Constant c.Success) ∷ (codes "thrd_busy", e.Constant c.Busy) ∷ (codes "thrd_error", e.Constant c.Error)
    ∷ (codes "mtx_plain", e.Constant c.PlainMutex) ∷ (codes "NULL", e.Constant c.Null) ∷ []

abbrev pub orders : Table
orders = (codes "memory_order_relaxed", e.Order order.Relaxed) ∷ (codes "memory_order_consume", e.Order order.Consume)
    ∷ (codes "memory_order_acquire", e.Order order.Acquire) ∷ (codes "memory_order_release", e.Order order.Release)
    ∷ (codes "memory_order_acq_rel", e.Order order.AcqRel) ∷ (codes "memory_order_seq_cst", e.Order order.SeqCst) ∷ []

-- what a name of the library denotes; none for another name
unfoldable pub library_entity : List ℕ → Option Entity
library_entity name = or_else (look_up transfers name) (or_else (look_up fetches name) (or_else (look_up exchanges name)
    (or_else (look_up threads name) (or_else (look_up constants name) (look_up orders name)))))

-- ---- values and types

abbrev pub valued : CType → ℕ → TypedNumber
valued ctype n = record { ctype = ctype; number = pos n }

abbrev pub constant_value : LibraryConstant → TypedNumber
constant_value c.Success = valued Int 0
constant_value c.Busy = valued Int 1
constant_value c.Error = valued Int 2
constant_value c.PlainMutex = valued Int 0
constant_value c.Null = valued Long 0

-- the type of what a function of the library answers, where an atomic object that it is given has type `object`; none where it answers nothing
abbrev pub library_answers : Library → CType → Option CType
library_answers (l.Load explicit) object = Some object
library_answers (l.Store explicit) object = None
library_answers (l.ReadWrite k explicit) object = Some object
library_answers (l.CompareExchange weak explicit) object = Some Int
library_answers l.Fence object = None
library_answers l.MutexInit object = Some Int
library_answers l.MutexLock object = Some Int
library_answers l.MutexTryLock object = Some Int
library_answers l.MutexUnlock object = Some Int
library_answers l.MutexDestroy object = None
library_answers l.Yield object = None
library_answers l.Create object = Some Int
library_answers l.Join object = Some Int
library_answers l.Assert object = None
library_answers l.Print object = Some Int

-- ---- arguments

-- the explicit forms take orders behind the arguments of the others
abbrev pub and_orders : Bool → List Want → List Want
and_orders true wants = wants
and_orders false wants = []

-- what a function of the library wants as its arguments; behind a format come the values that it asks for
abbrev pub wants_of : Library → List Want
wants_of (l.Load explicit) = want.Atomic ∷ and_orders explicit (want.Order use_.Load ∷ [])
wants_of (l.Store explicit) = want.Atomic ∷ want.Value ∷ and_orders explicit (want.Order use_.Store ∷ [])
wants_of (l.ReadWrite k explicit) = want.Atomic ∷ want.Value ∷ and_orders explicit (want.Order use_.ReadWrite ∷ [])
wants_of (l.CompareExchange weak explicit) = want.Atomic ∷ want.Expected ∷ want.Value ∷ and_orders explicit (want.Order use_.ReadWrite ∷ want.FailureOrder ∷ [])
wants_of l.Fence = want.Order use_.Fence ∷ []
wants_of l.MutexInit = want.Mutex ∷ want.MutexKind ∷ []
wants_of l.MutexLock = want.Mutex ∷ []
wants_of l.MutexTryLock = want.Mutex ∷ []
wants_of l.MutexUnlock = want.Mutex ∷ []
wants_of l.MutexDestroy = want.Mutex ∷ []
wants_of l.Yield = []
wants_of l.Create = want.NewHandle ∷ want.ThreadFunction ∷ want.Value ∷ []
wants_of l.Join = want.Handle ∷ want.Answer ∷ []
wants_of l.Assert = want.Value ∷ []
wants_of l.Print = want.Format ∷ []
