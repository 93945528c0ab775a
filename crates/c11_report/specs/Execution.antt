-- The text of an execution, as a list of bytes.
use Rattle.std.specs.Prelude.{ℕ, ◌+◌, ◌/◌, ◌%◌, Bool, true, false, List, [], ◌∷◌, ◌++◌, Option, Some, None, flat_map, slice_get, codes, nat_lt, if◌then◌else◌}
use Rattle.std.specs.Fmt.{decimal, signed_decimal}
use Rattle.std.specs.Option.{option_map_or}
use Rattle.c11_num.specs.declared.kind.RmwKind.{RmwKind}
use Rattle.c11_num.specs.declared.kind.RmwKind.TheVariants as rmw
use Rattle.c11_events.specs.declared.cells.CellInfo.{CellInfo}
use Rattle.c11_events.specs.declared.cells.FunctionInfo.{FunctionInfo}
use Rattle.c11_events.specs.declared.order.Order.{Order}
use Rattle.c11_events.specs.declared.order.Order.TheVariants.{Relaxed, Consume, Acquire, Release, AcqRel, SeqCst}
use Rattle.c11_events.specs.declared.op.Op.{Op}
use Rattle.c11_events.specs.declared.op.Op.TheVariants as op
use Rattle.c11_events.specs.declared.op.StopKind.{StopKind}
use Rattle.c11_events.specs.declared.op.StopKind.TheVariants as stop
use Rattle.c11_events.specs.declared.reply.Reply.{Reply}
use Rattle.c11_events.specs.declared.reply.Reply.TheVariants.{Value, Exchanged, Locked, Created, Began, Joined}
use Rattle.c11_events.specs.declared.reply.FaultKind.{FaultKind}
use Rattle.c11_events.specs.declared.reply.FaultKind.TheVariants as fault
use Rattle.c11_events.specs.declared.verdict.Verdict.{Verdict}
use Rattle.c11_events.specs.declared.verdict.Verdict.TheVariants as verdict
use Rattle.c11_events.specs.declared.entry.Entry.{Entry}
use Rattle.c11_check.specs.declared.checked.Checked.{Checked}
use Rattle.c11_report.specs.declared.object.Objects.{Objects}
use Rattle.c11_report.specs.declared.text.Mode.{Mode}
use Rattle.c11_report.specs.declared.text.Mode.TheVariants as mode

-- what a text takes from the program: its cells, mutexes and functions by their numbers
pub record Names : Type 0 where
  pub atomic : List CellInfo
  pub plain : List CellInfo
  pub mutexes : List CellInfo
  pub functions : List FunctionInfo

abbrev pub index_bytes : Option ℕ → List ℕ
index_bytes None = []
index_bytes (Some index) = codes "[" ++ decimal index ++ codes "]"

-- an object is printed as its name, an element as `name[index]`
abbrev pub cell_bytes : List CellInfo → ℕ → List ℕ
cell_bytes cells cell = option_map_or (λ (info : CellInfo). info.name ++ index_bytes info.index) (slice_get cells cell) []

abbrev pub function_bytes : List FunctionInfo → ℕ → List ℕ
function_bytes functions function = option_map_or (λ (info : FunctionInfo). info.name) (slice_get functions function) []

abbrev pub order_bytes : Order → List ℕ
order_bytes Relaxed = codes "relaxed"
order_bytes Consume = codes "consume"
order_bytes Acquire = codes "acquire"
order_bytes Release = codes "release"
order_bytes AcqRel = codes "acq_rel"
order_bytes SeqCst = codes "seq_cst"

abbrev pub kind_bytes : RmwKind → List ℕ
kind_bytes rmw.Exchange = codes "swap"
kind_bytes rmw.Add = codes "add"
kind_bytes rmw.Sub = codes "sub"
kind_bytes rmw.And = codes "and"
kind_bytes rmw.Or = codes "or"
kind_bytes rmw.Xor = codes "xor"

abbrev pub stop_bytes : StopKind → List ℕ
stop_bytes stop.Assert = codes "assert"
stop_bytes stop.Local = codes "local"
stop_bytes stop.Overflow = codes "overflow"
stop_bytes stop.Divide = codes "divide"
stop_bytes stop.Shift = codes "shift"
stop_bytes stop.Bounds = codes "bounds"
stop_bytes stop.Depth = codes "depth"

abbrev pub fault_bytes : FaultKind → List ℕ
fault_bytes fault.Overflow = codes "overflow"
fault_bytes fault.Divide = codes "divide"
fault_bytes fault.Shift = codes "shift"
fault_bytes fault.Bounds = codes "bounds"
fault_bytes fault.Depth = codes "depth"
fault_bytes fault.Threads = codes "threads"
fault_bytes fault.Join = codes "join"
fault_bytes fault.Mutex = codes "mutex"
fault_bytes fault.Unlock = codes "unlock"

-- a hexadecimal digit, in lower case
abbrev pub hex_digit : ℕ → ℕ
hex_digit n = if nat_lt n 10 then 48 + n else 87 + n

-- two digits for each byte, and `-` for none
abbrev pub hex_bytes : List ℕ → List ℕ
hex_bytes [] = codes "-"
hex_bytes (b ∷ bs) = flat_map (λ byte. hex_digit (byte / 16) ∷ hex_digit (byte % 16) ∷ []) (b ∷ bs)

-- what follows the words of an operation for its reply; nothing does for a fault
abbrev pub reply_bytes : Reply → List ℕ
reply_bytes (Value value) = codes " = " ++ signed_decimal value.number
reply_bytes (Exchanged old true) = codes " = " ++ signed_decimal old.number ++ codes " yes"
reply_bytes (Exchanged old false) = codes " = " ++ signed_decimal old.number ++ codes " no"
reply_bytes (Locked true) = codes " = 0"
reply_bytes (Locked false) = codes " = 1"
reply_bytes (Created thread) = codes " = t" ++ decimal thread
reply_bytes (Joined value) = codes " = " ++ signed_decimal value
reply_bytes _ = []

-- the function that a thread runs, and its argument
abbrev pub began_bytes : Names → Reply → List ℕ
began_bytes names (Began function argument) = codes " " ++ function_bytes names.functions function ++ codes " " ++ signed_decimal argument
began_bytes names _ = []

abbrev pub exchange_word : Bool → List ℕ
exchange_word true = codes "wcas "
exchange_word false = codes "cas "

-- a word, an atomic cell and an order
abbrev pub access_bytes : Names → List ℕ → ℕ → Order → List ℕ
access_bytes names word cell order = word ++ cell_bytes names.atomic cell ++ codes " " ++ order_bytes order

-- the words of an operation
abbrev pub op_bytes : Names → Op → List ℕ
op_bytes names (op.Init cell value) = codes "init " ++ cell_bytes names.atomic cell ++ codes " " ++ signed_decimal value.number
op_bytes names (op.AtomicLoad cell order) = access_bytes names (codes "load ") cell order
op_bytes names (op.AtomicStore cell order value) = access_bytes names (codes "store ") cell order ++ codes " " ++ signed_decimal value.number
op_bytes names (op.Rmw cell order kind operand) =
    access_bytes names (codes "rmw ") cell order ++ codes " " ++ kind_bytes kind ++ codes " " ++ signed_decimal operand.number
op_bytes names (op.CompareExchange cell success failure weak expected desired) =
    access_bytes names (exchange_word weak) cell success ++ codes " " ++ order_bytes failure ++ codes " " ++ signed_decimal expected.number
    ++ codes " " ++ signed_decimal desired.number
op_bytes names (op.Fence order) = codes "fence " ++ order_bytes order
op_bytes names (op.PlainRead cell) = codes "read " ++ cell_bytes names.plain cell
op_bytes names (op.PlainWrite cell value) = codes "write " ++ cell_bytes names.plain cell ++ codes " " ++ signed_decimal value.number
op_bytes names (op.MutexInit mutex) = codes "minit " ++ cell_bytes names.mutexes mutex
op_bytes names (op.Lock mutex) = codes "lock " ++ cell_bytes names.mutexes mutex
op_bytes names (op.TryLock mutex) = codes "trylock " ++ cell_bytes names.mutexes mutex
op_bytes names (op.Unlock mutex) = codes "unlock " ++ cell_bytes names.mutexes mutex
op_bytes names (op.Create function argument) = codes "create " ++ function_bytes names.functions function ++ codes " " ++ signed_decimal argument
op_bytes names op.Begin = codes "begin"
op_bytes names (op.End value) = codes "end " ++ signed_decimal value
op_bytes names (op.Join thread) = codes "join t" ++ decimal thread
op_bytes names (op.Out bytes) = codes "out " ++ hex_bytes bytes
op_bytes names (op.Stop kind) = codes "stop " ++ stop_bytes kind

-- the words for the reply: a Lock has none, and those of a Begin are the function and its argument
abbrev pub told_bytes : Names → Op → Reply → List ℕ
told_bytes names (op.Lock mutex) reply = []
told_bytes names op.Begin reply = began_bytes names reply
told_bytes names _ reply = reply_bytes reply

-- the store that was read, and the list that was offered; nothing for an operation that reads no atomic cell
abbrev pub read_bytes : ℕ → List ℕ → List ℕ
read_bytes from [] = []
read_bytes from (x ∷ xs) = codes " from " ++ decimal from ++ codes " of" ++ flat_map (λ store. codes " " ++ decimal store) (x ∷ xs)

-- the number of an entry, its thread and its line
abbrev pub place_bytes : ℕ → ℕ → ℕ → List ℕ
place_bytes number thread line = decimal number ++ codes " t" ++ decimal thread ++ codes " l" ++ decimal line ++ codes " "

-- the line of an entry
abbrev pub entry_bytes : Names → Entry → List ℕ
entry_bytes names e = place_bytes e.number e.thread e.line ++ op_bytes names e.op ++ told_bytes names e.op e.reply ++ read_bytes e.from e.offered ++ 10 ∷ []

abbrev pub verdict_bytes : Names → Verdict → List ℕ
verdict_bytes names verdict.Done = codes "done"
verdict_bytes names verdict.Bound = codes "bound"
verdict_bytes names (verdict.Race first second cell) = codes "race " ++ decimal first ++ codes " " ++ decimal second ++ codes " " ++ cell_bytes names.plain cell
verdict_bytes names verdict.Assert = codes "assert"
verdict_bytes names (verdict.Fault kind) = codes "fault " ++ fault_bytes kind
verdict_bytes names verdict.Local = codes "local"
verdict_bytes names verdict.Deadlock = codes "deadlock"

abbrev pub mode_bytes : Mode → List ℕ
mode_bytes mode.Run = codes "run"
mode_bytes mode.Threads = codes "threads"

-- the first line
abbrev pub head_bytes : Mode → ℕ → ℕ → List ℕ
head_bytes mode seed bound = codes "c11t 1 " ++ mode_bytes mode ++ codes " seed " ++ decimal seed ++ codes " steps " ++ decimal bound ++ 10 ∷ []

-- the text of an execution: its mode, seed and bound, a line for each entry, and its verdict
abbrev pub execution_bytes : Names → Mode → ℕ → ℕ → List Entry → Verdict → List ℕ
execution_bytes names mode seed bound entries verdict =
    head_bytes mode seed bound ++ flat_map (entry_bytes names) entries ++ codes "verdict " ++ verdict_bytes names verdict ++ 10 ∷ []

-- those of a checked program
abbrev pub names_of : Checked → Names
names_of checked = record { atomic = checked.tables.atomics; plain = checked.tables.plains; mutexes = checked.tables.mutexes; functions = checked.tables.functions }

-- the objects of a program as lists
abbrev pub names_in : Objects → Names
names_in objects = record { atomic = objects.atomic.now; plain = objects.plain.now; mutexes = objects.mutexes.now; functions = objects.functions.now }
