-- Reading and writing what a name denotes (C11 6.3.2.1, 6.5.2.1, 6.5.2.4, 6.5.16; an atomic object by its name is read and written in
-- seq_cst order by 6.2.6.1).
use Rattle.std.specs.Prelude.{ℕ, ◌+◌, Bool, true, false, Option, Some, None, ℤ, pos, negsuc, nat_lt, if◌then◌else◌, slice_get, slice_set}
use Rattle.std.specs.Ordering.{int_eq}
use Rattle.c11_num.specs.Ranges.{TypedNumber}
use Rattle.c11_num.specs.Wrapping.{wrapped, converted, wrapping}
use Rattle.c11_num.specs.Operators.{binary_of}
use Rattle.c11_num.specs.declared.value.CType.{CType}
use Rattle.c11_num.specs.declared.value.CType.TheVariants.{Int}
use Rattle.c11_num.specs.declared.kind.BinaryOp.{BinaryOp}
use Rattle.c11_num.specs.declared.kind.BinaryOp.TheVariants as b
use Rattle.c11_num.specs.declared.kind.RmwKind.{RmwKind}
use Rattle.c11_num.specs.declared.kind.RmwKind.TheVariants as kind
use Rattle.c11_events.specs.declared.order.Order.TheVariants.{SeqCst}
use Rattle.c11_events.specs.declared.op.Op.TheVariants.{AtomicLoad, AtomicStore, Rmw, PlainRead, PlainWrite}
use Rattle.c11_events.specs.declared.op.StopKind.TheVariants.{Bounds}
use Rattle.c11_check.specs.declared.entity.Entity.{Entity}
use Rattle.c11_check.specs.declared.entity.Entity.TheVariants as e
use Rattle.c11_check.specs.Library.{constant_value}
use Rattle.c11_meaning.specs.Outcome.{State, Outcome, Gives, and_then, operation, told, when_done, stop, computed}

abbrev pub int_of : ℤ → TypedNumber
int_of number = record { ctype = Int; number = number }

-- what stands for the value of what has none, such as a call of a `void` function
abbrev pub nothing : TypedNumber
nothing = int_of (pos 0)

abbrev pub is_zero : TypedNumber → Bool
is_zero value = int_eq value.number (pos 0)

-- ---- the places of the running function

abbrev pub option_number : Option ℤ → ℤ
option_number (Some number) = number
option_number None = pos 0

abbrev pub local_at : State → ℕ → ℤ
local_at st place = option_number (slice_get st.locals place)

-- what a place holds, as a value of the object's type, which holds every number that is put there
abbrev pub local_value : CType → State → ℕ → TypedNumber
local_value ctype st place = wrapped ctype (local_at st place)

abbrev pub with_local_at : State → ℕ → ℤ → State
with_local_at st place number = record st { locals = slice_set st.locals place number }

-- ---- where an object is: the first of its places, cells or mutexes, or the one of an element

abbrev pub entity_base : Option Entity → ℕ
entity_base (Some (e.Local ctype place size)) = place
entity_base (Some (e.Handle place size)) = place
entity_base (Some (e.Atomic ctype cell size)) = cell
entity_base (Some (e.Plain ctype cell size)) = cell
entity_base (Some (e.Mutex mutex size)) = mutex
entity_base _ = 0

abbrev pub entity_size : Option Entity → Option ℕ
entity_size (Some (e.Local ctype place size)) = size
entity_size (Some (e.Handle place size)) = size
entity_size (Some (e.Atomic ctype cell size)) = size
entity_size (Some (e.Plain ctype cell size)) = size
entity_size (Some (e.Mutex mutex size)) = size
entity_size _ = None

-- an index outside of its array is refused, at the line of the name (C11 6.5.6 leaves it undefined)
unfoldable pub element : ℕ → ℕ → ℕ → ℤ → State → Outcome ℕ
element line base size (pos n) st = if nat_lt n size then Gives (base + n) st else stop line Bounds st
element line base size (negsuc n) st = stop line Bounds st

-- ---- reading and assigning

abbrev pub read_of : Option Entity → ℕ → ℕ → State → Outcome TypedNumber
read_of (Some (e.Local ctype base size)) line place st = Gives (local_value ctype st place) st
read_of (Some (e.Plain ctype base size)) line cell st = operation line (PlainRead cell) st told
read_of (Some (e.Atomic ctype base size)) line cell st = operation line (AtomicLoad cell SeqCst) st told
read_of (Some (e.Defined value)) line place st = Gives value st
read_of (Some (e.Constant constant)) line place st = Gives (constant_value constant) st
read_of _ line place st = Gives nothing st

-- the value is converted to the type of the object, and is then what the assignment gives
abbrev pub write_of : Option Entity → ℕ → ℕ → TypedNumber → State → Outcome TypedNumber
write_of (Some (e.Local ctype base size)) line place value st = Gives (converted ctype value) (with_local_at st place (converted ctype value).number)
write_of (Some (e.Plain ctype base size)) line cell value st = operation line (PlainWrite cell (converted ctype value)) st (when_done (converted ctype value))
write_of (Some (e.Atomic ctype base size)) line cell value st = operation line (AtomicStore cell SeqCst (converted ctype value)) st (when_done (converted ctype value))
write_of _ line place value st = Gives nothing st

-- ---- read-modify-writes

-- what a compound assignment of an atomic object does; other operators are refused there
abbrev pub kind_of_op : BinaryOp → RmwKind
kind_of_op b.Add = kind.Add
kind_of_op b.Sub = kind.Sub
kind_of_op b.And = kind.And
kind_of_op b.Xor = kind.Xor
kind_of_op b.Or = kind.Or
kind_of_op _ = kind.Exchange

-- the old value, or the new one
abbrev pub old_or_new : Bool → RmwKind → TypedNumber → TypedNumber → TypedNumber
old_or_new true kind old operand = old
old_or_new false kind old operand = wrapping kind old operand

abbrev pub updated : Bool → RmwKind → TypedNumber → TypedNumber → State → Outcome TypedNumber
updated old kind operand value st = Gives (old_or_new old kind value operand) st

-- one read-modify-write of an atomic cell, in seq_cst order
abbrev pub update : ℕ → ℕ → CType → BinaryOp → Bool → TypedNumber → State → Outcome TypedNumber
update line cell ctype op old value st = operation line (Rmw cell SeqCst (kind_of_op op) (converted ctype value)) st
    (λ reply st. and_then (told reply st) (updated old (kind_of_op op) (converted ctype value)))

-- ---- `x op= e`, where the value of e comes by `right` (C11 6.5.16.2)

-- of a local or a plain object, which is read first; `op_line` is the line of the operator
abbrev pub compute : Option Entity → ℕ → ℕ → BinaryOp → ℕ → (State → Outcome TypedNumber) → State → Outcome TypedNumber
compute entity line op_line op place right st = and_then (read_of entity line place st) (λ x st. and_then (right st) (λ y st.
    and_then (computed op_line (binary_of op x y) st) (λ z st. write_of entity line place z st)))

-- of an atomic object the new value comes of one read-modify-write, after e
abbrev pub compound : Option Entity → ℕ → ℕ → BinaryOp → ℕ → (State → Outcome TypedNumber) → State → Outcome TypedNumber
compound (Some (e.Atomic ctype base size)) line op_line op cell right st = and_then (right st) (λ y st. update line cell ctype op false y st)
compound (Some (e.Local ctype base size)) line op_line op place right st = compute (Some (e.Local ctype base size)) line op_line op place right st
compound (Some (e.Plain ctype base size)) line op_line op cell right st = compute (Some (e.Plain ctype base size)) line op_line op cell right st
compound _ line op_line op place right st = Gives nothing st

-- ---- `++` and `--` (C11 6.5.2.4 and 6.5.3.1)

abbrev pub one : TypedNumber
one = int_of (pos 1)

abbrev pub step_op : Bool → BinaryOp
step_op true = b.Add
step_op false = b.Sub

abbrev pub new_or_old : Bool → TypedNumber → TypedNumber → TypedNumber
new_or_old true new old = new
new_or_old false new old = old

-- before its target an operator gives the new value, behind it the old one
abbrev pub step_plain : Option Entity → ℕ → ℕ → Bool → Bool → ℕ → State → Outcome TypedNumber
step_plain entity line op_line up before place st = and_then (read_of entity line place st) (λ x st.
    and_then (computed op_line (binary_of (step_op up) x one) st) (λ y st. and_then (write_of entity line place y st) (λ z st. Gives (new_or_old before z x) st)))

abbrev pub not_before : Bool → Bool
not_before true = false
not_before false = true

abbrev pub step : Option Entity → ℕ → ℕ → Bool → Bool → ℕ → State → Outcome TypedNumber
step (Some (e.Atomic ctype base size)) line op_line up before cell st = update line cell ctype (step_op up) (not_before before) one st
step (Some (e.Local ctype base size)) line op_line up before place st = step_plain (Some (e.Local ctype base size)) line op_line up before place st
step (Some (e.Plain ctype base size)) line op_line up before cell st = step_plain (Some (e.Plain ctype base size)) line op_line up before cell st
step _ line op_line up before place st = Gives nothing st
