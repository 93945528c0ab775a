-- What a call of a function of the library does: its objects and their bounds, its values, and one operation at the line of its name
-- (C11 7.2.1.1, 7.17.4, 7.17.7, 7.21.6.3, 7.26.4 and 7.26.5).
use Rattle.std.specs.Prelude.{ℕ, Bool, true, false, List, [], ◌∷◌, length, Option, Some, None, pos, if◌then◌else◌}
use Rattle.c11_num.specs.Ranges.{TypedNumber}
use Rattle.c11_num.specs.Wrapping.{bits_of, converted}
use Rattle.c11_num.specs.declared.value.CType.TheVariants.{Unsigned, Long}
use Rattle.c11_num.specs.declared.kind.RmwKind.{RmwKind}
use Rattle.c11_events.specs.declared.op.Op.TheVariants as op
use Rattle.c11_events.specs.declared.op.StopKind.TheVariants.{Assert}
use Rattle.c11_events.specs.declared.reply.Reply.{Reply}
use Rattle.c11_events.specs.declared.reply.Reply.TheVariants as reply
use Rattle.c11_check.specs.declared.entity.Entity.{Entity}
use Rattle.c11_check.specs.declared.entity.Entity.TheVariants as e
use Rattle.c11_check.specs.declared.library.Library.{Library}
use Rattle.c11_check.specs.declared.library.Library.TheVariants as l
use Rattle.c11_check.specs.declared.format.Within.TheVariants.{Plain}
use Rattle.c11_check.specs.Scopes.{Scope}
use Rattle.c11_check.specs.Types.{entity_type}
use Rattle.c11_meaning.specs.Outcome.{State, Outcome, Gives, Over, and_then, operation, told, when_done, stop}
use Rattle.c11_meaning.specs.Objects.{int_of, nothing, is_zero, local_value, with_local_at}
use Rattle.c11_meaning.specs.Prints.{printed}
use Rattle.c11_meaning.specs.Parts.{Object, Given, Address, Text, Value, entity_of, given_object, given_entity, order_in, second_order_in, function_named}
use Rattle.c11_meaning.specs.Expressions.{Calls, Valuing, located}

-- ---- arguments: the checks have seen that each is of the form that is wanted, and another form counts as nothing

-- the value of an argument
abbrev pub value_given : Given Valuing → Valuing
value_given (Value part) scope calls st = part.value scope calls st
value_given _ scope calls st = Gives nothing st

-- ---- atomic operations (C11 7.17.7; A is the atomic object)

abbrev pub loading : ℕ → Object Valuing → List (Given Valuing) → Valuing
loading line a orders scope calls st = and_then (located a scope calls st)
    (λ cell st. operation line (op.AtomicLoad cell (order_in orders scope)) st told)

-- the value, in the type of the object
abbrev pub object_value : Object Valuing → Scope → TypedNumber → TypedNumber
object_value a scope value = converted (entity_type (entity_of a scope)) value

abbrev pub storing : ℕ → Object Valuing → Given Valuing → List (Given Valuing) → Valuing
storing line a given orders scope calls st = and_then (located a scope calls st) (λ cell st. and_then (value_given given scope calls st)
    (λ value st. operation line (op.AtomicStore cell (order_in orders scope) (object_value a scope value)) st (when_done nothing)))

abbrev pub modifying : ℕ → RmwKind → Object Valuing → Given Valuing → List (Given Valuing) → Valuing
modifying line kind a given orders scope calls st = and_then (located a scope calls st) (λ cell st. and_then (value_given given scope calls st)
    (λ value st. operation line (op.Rmw cell (order_in orders scope) kind (object_value a scope value)) st told))

-- where it fails, the local gets the value that was read
abbrev pub exchanged : ℕ → Reply → State → Outcome TypedNumber
exchanged place (reply.Exchanged old true) st = Gives (int_of (pos 1)) st
exchanged place (reply.Exchanged old false) st = Gives (int_of (pos 0)) (with_local_at st place old.number)
exchanged place reply st = Over

-- the local with the expected value is read last
abbrev pub comparing : ℕ → Bool → Object Valuing → Object Valuing → Given Valuing → List (Given Valuing) → Valuing
comparing line weak a expected given orders scope calls st = and_then (located a scope calls st) (λ cell st. and_then (located expected scope calls st)
    (λ place st. and_then (value_given given scope calls st) (λ value st. operation line (op.CompareExchange cell (order_in orders scope) (second_order_in orders scope) weak
    (local_value (entity_type (entity_of expected scope)) st place) (object_value a scope value)) st (exchanged place))))

-- ---- mutexes (C11 7.26.4)

abbrev pub zero_number : TypedNumber
zero_number = int_of (pos 0)

abbrev pub when_locked : Reply → State → Outcome TypedNumber
when_locked (reply.Locked true) st = Gives zero_number st
when_locked reply st = Over

-- 0 where the mutex was free, 1 where it is locked
abbrev pub tried : Reply → State → Outcome TypedNumber
tried (reply.Locked true) st = Gives zero_number st
tried (reply.Locked false) st = Gives (int_of (pos 1)) st
tried reply st = Over

-- ---- threads (C11 7.26.5)

abbrev pub created : ℕ → Reply → State → Outcome TypedNumber
created place (reply.Created thread) st = Gives zero_number (with_local_at st place (pos thread))
created place reply st = Over

-- the handle gets the number of the new thread
abbrev pub creating : ℕ → Object Valuing → Given Valuing → Given Valuing → Valuing
creating line handle function given scope calls st = and_then (located handle scope calls st) (λ place st. and_then (value_given given scope calls st)
    (λ value st. operation line (op.Create (function_named (given_entity function scope)) (converted Long value).number) st (created place)))

abbrev pub joined : Option ℕ → Reply → State → Outcome TypedNumber
joined None (reply.Joined value) st = Gives zero_number st
joined (Some place) (reply.Joined value) st = Gives zero_number (with_local_at st place value)
joined place reply st = Over

-- the place that gets the thread's result, where one is given
abbrev pub answer_place : Given Valuing → Scope → Calls → State → Outcome (Option ℕ)
answer_place (Address object) scope calls st = and_then (located object scope calls st) (λ place st. Gives (Some place) st)
answer_place _ scope calls st = Gives None st

-- where the handle is that is given
abbrev pub handle_located : Option (Object Valuing) → Scope → Calls → State → Outcome ℕ
handle_located None scope calls st = Gives 0 st
handle_located (Some object) scope calls st = located object scope calls st

-- the handle is read before the place of the answer is found
abbrev pub handle_read : Option (Object Valuing) → Scope → Calls → State → Outcome TypedNumber
handle_read handle scope calls st = and_then (handle_located handle scope calls st) (λ place st. Gives (local_value Long st place) st)

-- the thread whose number a handle holds, which 32 bits do
abbrev pub thread_of : TypedNumber → ℕ
thread_of handle = bits_of Unsigned handle.number

abbrev pub joining : ℕ → Given Valuing → Given Valuing → Valuing
joining line handle answer scope calls st = and_then (handle_read (given_object handle) scope calls st) (λ thread st. and_then (answer_place answer scope calls st)
    (λ answer st. operation line (op.Join (thread_of thread)) st (joined answer)))

-- ---- `assert` and `printf`

abbrev pub asserting : ℕ → Given Valuing → Valuing
asserting line given scope calls st = and_then (value_given given scope calls st) (λ value st. if is_zero value then stop line Assert st else Gives nothing st)

-- the values, from left to right
abbrev pub values_given : List (Given Valuing) → Scope → Calls → State → Outcome (List TypedNumber)
values_given [] scope calls st = Gives [] st
values_given (given ∷ rest) scope calls st = and_then (value_given given scope calls st) (λ value st. and_then (values_given rest scope calls st) (λ values st. Gives (value ∷ values) st))

abbrev pub writing : ℕ → List ℕ → State → Outcome TypedNumber
writing line bytes st = operation line (op.Out bytes) st (when_done (int_of (pos (length bytes))))

abbrev pub printing : ℕ → List ℕ → List (Given Valuing) → Valuing
printing line bytes rest scope calls st = and_then (values_given rest scope calls st) (λ values st. writing line (printed Plain bytes values) st)

-- ---- each function with its arguments

abbrev pub library_call : Library → ℕ → List (Given Valuing) → Valuing
library_call (l.Load explicit) line (Address a ∷ orders) scope calls st = loading line a orders scope calls st
library_call (l.Store explicit) line (Address a ∷ given ∷ orders) scope calls st = storing line a given orders scope calls st
library_call (l.ReadWrite kind explicit) line (Address a ∷ given ∷ orders) scope calls st = modifying line kind a given orders scope calls st
library_call (l.CompareExchange weak explicit) line (Address a ∷ Address expected ∷ given ∷ orders) scope calls st = comparing line weak a expected given orders scope calls st
library_call l.Fence line givens scope calls st = operation line (op.Fence (order_in givens scope)) st (when_done nothing)
library_call l.MutexInit line (Address m ∷ kind) scope calls st = and_then (located m scope calls st) (λ mutex st. operation line (op.MutexInit mutex) st (when_done zero_number))
library_call l.MutexLock line (Address m ∷ rest) scope calls st = and_then (located m scope calls st) (λ mutex st. operation line (op.Lock mutex) st when_locked)
library_call l.MutexTryLock line (Address m ∷ rest) scope calls st = and_then (located m scope calls st) (λ mutex st. operation line (op.TryLock mutex) st tried)
library_call l.MutexUnlock line (Address m ∷ rest) scope calls st = and_then (located m scope calls st) (λ mutex st. operation line (op.Unlock mutex) st (when_done zero_number))
library_call l.MutexDestroy line (Address m ∷ rest) scope calls st = and_then (located m scope calls st) (λ mutex st. Gives nothing st)
library_call l.Create line (Address handle ∷ function ∷ given ∷ rest) scope calls st = creating line handle function given scope calls st
library_call l.Join line (handle ∷ answer ∷ rest) scope calls st = joining line handle answer scope calls st
library_call l.Assert line (given ∷ rest) scope calls st = asserting line given scope calls st
library_call l.Print line (Text bytes ∷ rest) scope calls st = printing line bytes rest scope calls st
library_call _ line givens scope calls st = Gives nothing st

-- ---- a call of what a name denotes

-- the arguments, and then the function; what is no function is refused by the checks
abbrev pub call : Option Entity → ℕ → List (Given Valuing) → Valuing
call (Some (e.Function function signature)) line givens scope calls st = and_then (values_given givens scope calls st) (λ values st. calls line function values st)
call (Some (e.Library library)) line givens scope calls st = library_call library line givens scope calls st
call _ line givens scope calls st = Gives nothing st
