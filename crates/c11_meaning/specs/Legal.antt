-- What a program may ask for: operations on its own cells, mutexes and functions, with values of the types of their cells.
use Rattle.std.specs.Prelude.{◌≡◌, ◌⊎◌, ℕ, ◌<◌, ◌^◌, ⊤, true, List, length, Some, slice_get}
use Rattle.c11_num.specs.declared.value.CType.{CType}
use Rattle.c11_ast.specs.declared.item.Program.{Program}
use Rattle.c11_events.specs.declared.cells.CellInfo.{CellInfo}
use Rattle.c11_events.specs.declared.op.Ask.{Ask}
use Rattle.c11_events.specs.declared.op.Op.{Op}
use Rattle.c11_events.specs.declared.op.Op.TheVariants as op
use Rattle.c11_events.specs.declared.reply.Reply.{Reply}
use Rattle.c11_events.specs.declared.reply.Reply.TheVariants.{Created}
use Rattle.c11_check.specs.declared.entity.Signature.{Signature}
use Rattle.c11_check.specs.Faults.{is_thread_function}
use Rattle.c11_check.specs.Programs.{HasNoFault}
use Rattle.c11_check.specs.Tables.{Tables, tables_of}
use Rattle.c11_check.specs.Lies.{signatures_in}
use Rattle.c11_meaning.specs.Asks.{asks_of}

-- what a thread may speak of: the tables and the functions of its program, and the replies that it had
pub record World : Type 0 where
  pub tables : Tables
  pub functions : List Signature
  pub replies : List Reply

-- the cell is there
abbrev pub IsCell : List CellInfo → ℕ → Type 0
IsCell cells cell = (info : CellInfo) × (slice_get cells cell ≡ Some info)

-- the cell is there, and has this type
abbrev pub IsCellOf : List CellInfo → ℕ → CType → Type 0
IsCellOf cells cell ctype = (info : CellInfo) × ((slice_get cells cell ≡ Some info) × (info.initial.ctype ≡ ctype))

-- the function answers `int` and has one parameter, which is a `void *`
abbrev pub IsThreadFunction : List Signature → ℕ → Type 0
IsThreadFunction functions function = (signature : Signature) × ((slice_get functions function ≡ Some signature) × (is_thread_function signature ≡ true))

-- the first thread, or one that a reply names as created
abbrev pub IsThread : List Reply → ℕ → Type 0
IsThread replies thread = (thread ≡ 0) ⊎ ((i : ℕ) × (slice_get replies i ≡ Some (Created thread)))

-- the numbers of created threads fit 32 bits
abbrev pub AreReplies : List Reply → Type 0
AreReplies replies = (thread i : ℕ) → slice_get replies i ≡ Some (Created thread) → thread < 2 ^ 32

abbrev pub IsOpOf : World → Op → Type 0
IsOpOf w (op.Init cell value) = ⊥
IsOpOf w (op.AtomicLoad cell order) = IsCell w.tables.atomics cell
IsOpOf w (op.AtomicStore cell order value) = IsCellOf w.tables.atomics cell value.ctype
IsOpOf w (op.Rmw cell order kind operand) = IsCellOf w.tables.atomics cell operand.ctype
IsOpOf w (op.CompareExchange cell success failure weak expected desired) = IsCellOf w.tables.atomics cell expected.ctype × IsCellOf w.tables.atomics cell desired.ctype
IsOpOf w (op.PlainRead cell) = IsCell w.tables.plains cell
IsOpOf w (op.PlainWrite cell value) = IsCellOf w.tables.plains cell value.ctype
IsOpOf w (op.MutexInit mutex) = mutex < length w.tables.mutexes
IsOpOf w (op.Lock mutex) = mutex < length w.tables.mutexes
IsOpOf w (op.TryLock mutex) = mutex < length w.tables.mutexes
IsOpOf w (op.Unlock mutex) = mutex < length w.tables.mutexes
IsOpOf w (op.Create function argument) = IsThreadFunction w.functions function
IsOpOf w (op.Join thread) = AreReplies w.replies → IsThread w.replies thread
IsOpOf w (op.Fence order) = ⊤
IsOpOf w op.Begin = ⊤
IsOpOf w (op.End value) = ⊤
IsOpOf w (op.Out bytes) = ⊤
IsOpOf w (op.Stop kind) = ⊤

-- A program without a fault asks for nothing else, whatever the replies.
abbrev pub AsksAreLegal : Type 0
AsksAreLegal = (program : Program) (replies : List Reply) (ask : Ask) → length program.items < 2 ^ 32 → HasNoFault program → asks_of program replies ≡ Some ask
    → IsOpOf (record { tables = tables_of program; functions = signatures_in program.items; replies = replies }) ask.op
