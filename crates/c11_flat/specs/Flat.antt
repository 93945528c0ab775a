-- What flat code does, one instruction after the other.
use Rattle.std.specs.Prelude.{ℕ, zero, suc, ◌+◌, ◌-◌, List, [], ◌∷◌, ◌++◌, Option, Some, None, ℤ, pos, length, replicate, nat_lt, if◌then◌else◌, slice_get}
use Rattle.c11_num.specs.Ranges.{TypedNumber}
use Rattle.c11_num.specs.Wrapping.{converted}
use Rattle.c11_num.specs.Operators.{binary_of}
use Rattle.c11_num.specs.declared.value.CType.{CType}
use Rattle.c11_num.specs.declared.value.CType.TheVariants.{Int, Long}
use Rattle.c11_events.specs.declared.op.Ask.{Ask}
use Rattle.c11_events.specs.declared.op.Op.TheVariants as op
use Rattle.c11_events.specs.declared.op.StopKind.TheVariants as stop
use Rattle.c11_events.specs.declared.reply.Reply.{Reply}
use Rattle.c11_events.specs.declared.reply.Reply.TheVariants.{Began}
use Rattle.c11_check.specs.declared.format.Within.TheVariants as format
use Rattle.c11_meaning.specs.Outcome.{State, Outcome, Gives, Wants, Over, and_then, operation, told, when_done, computed, turn_limit}
use Rattle.c11_meaning.specs.Outcome as outcome
use Rattle.c11_meaning.specs.Objects.{nothing, one, is_zero, local_value, with_local_at, element, updated, step_op, new_or_old}
use Rattle.c11_meaning.specs.Expressions.{prefixed, cast, truth_of}
use Rattle.c11_meaning.specs.Library.{zero_number, when_locked, tried, created, exchanged, joined, thread_of, writing}
use Rattle.c11_meaning.specs.Prints.{printed}
use Rattle.c11_meaning.specs.Statements.{cleared}
use Rattle.c11_flat.specs.declared.instr.Instr.{Instr}
use Rattle.c11_flat.specs.declared.instr.Instr.TheVariants as i
use Rattle.c11_flat.specs.declared.instr.Place.{Place}
use Rattle.c11_flat.specs.declared.instr.Place.TheVariants.{At, OnStack}
use Rattle.c11_flat.specs.declared.instr.Storage.{Storage}
use Rattle.c11_flat.specs.declared.instr.Storage.TheVariants.{Local, Plain}
use Rattle.c11_flat.specs.declared.instr.Acts.{Acts}
use Rattle.c11_flat.specs.declared.instr.Acts.TheVariants as acts
use Rattle.c11_flat.specs.declared.slot.Slot.{Slot}
use Rattle.c11_flat.specs.declared.slot.Slot.TheVariants as slot
use Rattle.c11_flat.specs.Code.{Whole, Start}

-- where a caller goes on, what it answers, and its locals
pub record Caller : Type 0 where
  pub place : ℕ
  pub answers : Option CType
  pub locals : List ℤ

pub record Config : Type 0 where
  pub place : ℕ
  pub stack : List Slot
  pub callers : List Caller
  pub answers : Option CType
  pub state : State

-- a further configuration, an operation that wants a reply, or no answer
pub data Next : Type 0 where
  To : Config → Next
  Says : Ask → Next
  Halts : Next

-- goes on where an outcome gives a value
unfoldable pub from : {A : Type 0} → Outcome A → (A → State → Next) → Next
from (Gives a st) go = go a st
from (Wants ask) go = Says ask
from Over go = Halts

-- ---- the stack

abbrev pub on_value : List Slot → (TypedNumber → List Slot → Next) → Next
on_value (slot.Value value ∷ stack) go = go value stack
on_value _ go = Halts

abbrev pub on_slot : List Slot → (List Slot → Next) → Next
on_slot [] go = Halts
on_slot (s ∷ stack) go = go stack

abbrev pub on_place : Place → List Slot → (ℕ → List Slot → Next) → Next
on_place (At place) stack go = go place stack
on_place OnStack (slot.Place place ∷ stack) go = go place stack
on_place OnStack _ go = Halts

-- the place stays on the stack
abbrev pub at_place : Place → List Slot → (ℕ → Next) → Next
at_place (At place) stack go = go place
at_place OnStack (slot.Place place ∷ stack) go = go place
at_place OnStack _ go = Halts

abbrev pub on_answer : Option Place → List Slot → (Option ℕ → List Slot → Next) → Next
on_answer None stack go = go None stack
on_answer (Some place) stack go = on_place place stack (λ n stack. go (Some n) stack)

-- the last so many values, the last one on top
abbrev pub popping : ℕ → List TypedNumber → List Slot → (List TypedNumber → List Slot → Next) → Next
popping zero found stack go = go found stack
popping (suc n) found (slot.Value value ∷ stack) go = popping n (value ∷ found) stack go
popping (suc n) found _ go = Halts

-- ---- to the next instruction

abbrev pub going : Config → List Slot → State → Next
going c stack st = To (record c { place = c.place + 1; stack = stack; state = st })

abbrev pub giving : Config → List Slot → TypedNumber → State → Next
giving c stack value st = going c (slot.Value value ∷ stack) st

-- forward alone
abbrev pub jumping : Config → ℕ → List Slot → Next
jumping c to stack = if nat_lt c.place to then To (record c { place = to; stack = stack }) else Halts

-- ---- single instructions

abbrev pub read_at : Storage → CType → ℕ → ℕ → State → Outcome TypedNumber
read_at Local ctype line place st = Gives (local_value ctype st place) st
read_at Plain ctype line cell st = operation line (op.PlainRead cell) st told

abbrev pub write_at : Storage → CType → ℕ → ℕ → TypedNumber → State → Outcome TypedNumber
write_at Local ctype line place value st = Gives (converted ctype value) (with_local_at st place (converted ctype value).number)
write_at Plain ctype line cell value st = operation line (op.PlainWrite cell (converted ctype value)) st (when_done (converted ctype value))

-- counts a turn or a call, where one is left
abbrev pub counting : ℕ → ℕ → State → (State → Next) → Next
counting zero line st go = from (outcome.stop line stop.Local st) (λ (value : TypedNumber) st. Halts)
counting (suc n) line st go = go (record st { turns = n })

abbrev pub counted : ℕ → State → (State → Next) → Next
counted line st go = counting st.turns line st go

abbrev pub mutex_act : Acts → ℕ → ℕ → State → Outcome TypedNumber
mutex_act acts.Init line mutex st = operation line (op.MutexInit mutex) st (when_done zero_number)
mutex_act acts.Lock line mutex st = operation line (op.Lock mutex) st when_locked
mutex_act acts.TryLock line mutex st = operation line (op.TryLock mutex) st tried
mutex_act acts.Unlock line mutex st = operation line (op.Unlock mutex) st (when_done zero_number)

abbrev pub numbers_in : List CType → List TypedNumber → List ℤ
numbers_in [] values = []
numbers_in (ctype ∷ types) [] = []
numbers_in (ctype ∷ types) (value ∷ values) = (converted ctype value).number ∷ numbers_in types values

abbrev pub locals_in : Start → List TypedNumber → List ℤ
locals_in start values = numbers_in start.params values ++ replicate (start.places - length start.params) (pos 0)

abbrev pub entering : Option Start → Config → List TypedNumber → List Slot → State → Next
entering None c values stack st = Halts
entering (Some start) c values stack st = To (record {
  place = start.place;
  stack = stack;
  callers = record { place = c.place + 1; answers = c.answers; locals = st.locals } ∷ c.callers;
  answers = start.answers;
  state = record st { locals = locals_in start values };
})

abbrev pub frame_limit : ℕ
frame_limit = 63

abbrev pub calling : Whole → ℕ → ℕ → Config → List TypedNumber → List Slot → Next
calling code line function c values stack = counted line c.state (λ st.
    if nat_lt (length c.callers) frame_limit then entering (slice_get code.starts function) c values stack st
    else from (outcome.stop line stop.Depth st) (λ (value : TypedNumber) st. Halts))

abbrev pub answer_in : Option CType → TypedNumber → TypedNumber
answer_in None value = nothing
answer_in (Some ctype) value = converted ctype value

-- to the caller, or to the End of the thread
abbrev pub returning : ℕ → TypedNumber → List Slot → List Caller → State → Next
returning line value stack [] st = from (operation line (op.End (converted Int value).number) st (λ reply st. Over)) (λ (value : TypedNumber) st. Halts)
returning line value stack (caller ∷ callers) st = To (record {
  place = caller.place;
  stack = slot.Value value ∷ stack;
  callers = callers;
  answers = caller.answers;
  state = record st { locals = caller.locals };
})

abbrev pub act : Whole → Instr → Config → Next
act code (i.Push value) c = giving c c.stack value c.state
act code i.Drop c = on_slot c.stack (λ stack. going c stack c.state)
act code (i.Element line span) c = on_value c.stack (λ value stack. from (element line span.base span.size value.number c.state) (λ place st. going c (slot.Place place ∷ stack) st))
act code (i.Read line storage ctype place) c = on_place place c.stack (λ n stack. from (read_at storage ctype line n c.state) (giving c stack))
act code (i.Fetch line storage ctype place) c = at_place place c.stack (λ n. from (read_at storage ctype line n c.state) (giving c c.stack))
act code (i.Write line storage ctype place) c = on_value c.stack (λ value stack. on_place place stack (λ n stack. from (write_at storage ctype line n value c.state) (giving c stack)))
act code (i.Compute line op) c = on_value c.stack (λ y stack. on_value stack (λ x stack. from (computed line (binary_of op x y) c.state) (giving c stack)))
act code (i.Step line up) c = on_value c.stack (λ x stack. from (computed line (binary_of (step_op up) x one) c.state) (giving c c.stack))
act code (i.Stepped line storage ctype place before) c = on_value c.stack (λ y stack. on_value stack (λ x stack. on_place place stack (λ n stack.
    from (write_at storage ctype line n y c.state) (λ z st. giving c stack (new_or_old before z x) st))))
act code (i.Prefix line op) c = on_value c.stack (λ value stack. from (prefixed op line value c.state) (giving c stack))
act code (i.Cast to) c = on_value c.stack (λ value stack. giving c stack (cast to value) c.state)
act code i.Truth c = on_value c.stack (λ value stack. giving c stack (truth_of value) c.state)
act code (i.JumpIfZero to) c = on_value c.stack (λ value stack. if is_zero value then jumping c to stack else going c stack c.state)
act code (i.Jump to) c = jumping c to c.stack
act code (i.Turn line) c = counted line c.state (λ st. going c c.stack st)
act code (i.TurnIf line to) c = on_value c.stack (λ value stack. if is_zero value then going c stack c.state
    else counted line c.state (λ st. To (record c { place = to; stack = stack; state = st })))
act code (i.Load line order cell) c = on_place cell c.stack (λ n stack. from (operation line (op.AtomicLoad n order) c.state told) (giving c stack))
act code (i.Store line order ctype cell) c = on_value c.stack (λ value stack. on_place cell stack (λ n stack.
    from (operation line (op.AtomicStore n order (converted ctype value)) c.state (when_done (converted ctype value))) (giving c stack)))
act code (i.Modify line order kind ctype cell old) c = on_value c.stack (λ value stack. on_place cell stack (λ n stack.
    from (operation line (op.Rmw n order kind (converted ctype value)) c.state (λ reply st. and_then (told reply st) (updated old kind (converted ctype value)))) (giving c stack)))
act code (i.Compare line weak success failure ctype expected cell local) c = on_value c.stack (λ value stack. on_place local stack (λ place stack. on_place cell stack (λ n stack.
    from (operation line (op.CompareExchange n success failure weak (local_value expected c.state place) (converted ctype value)) c.state (exchanged place)) (giving c stack))))
act code (i.Fence line order) c = from (operation line (op.Fence order) c.state (when_done nothing)) (giving c c.stack)
act code (i.Mutex line acts mutex) c = on_place mutex c.stack (λ n stack. from (mutex_act acts line n c.state) (giving c stack))
act code (i.Create line function handle) c = on_value c.stack (λ value stack. on_place handle stack (λ n stack.
    from (operation line (op.Create function (converted Long value).number) c.state (created n)) (giving c stack)))
act code (i.Join line answer) c = on_answer answer c.stack (λ place stack. on_value stack (λ thread stack.
    from (operation line (op.Join (thread_of thread)) c.state (joined place)) (giving c stack)))
act code (i.Assert line) c = on_value c.stack (λ value stack. if is_zero value then from (outcome.stop line stop.Assert c.state) (giving c stack) else giving c stack nothing c.state)
act code (i.Print line text count) c = popping count [] c.stack (λ values stack. from (writing line (printed format.Plain text values) c.state) (giving c stack))
act code (i.Call line function count) c = popping count [] c.stack (λ values stack. calling code line function c values stack)
act code (i.Return line) c = on_value c.stack (λ value stack. returning line (answer_in c.answers value) stack c.callers c.state)
act code (i.Clear place count) c = going c c.stack (cleared place count c.state)

-- ---- runs

abbrev pub act_at : Whole → Option Instr → Config → Next
act_at code None c = Halts
act_at code (Some instr) c = act code instr c

abbrev pub next : Whole → Next → Next
next code (To c) = act_at code (slice_get code.instrs c.place) c
next code (Says ask) = Says ask
next code Halts = Halts

-- after so many instructions
abbrev pub steps : Whole → ℕ → Next → Next
steps code zero n = n
steps code (suc j) n = steps code j (next code n)

abbrev pub first : Option Start → ℤ → State → Next
first None argument st = Halts
first (Some start) argument st = To (record {
  place = start.place;
  stack = [];
  callers = [];
  answers = start.answers;
  state = record st { locals = locals_in start (record { ctype = Long; number = argument } ∷ []) };
})

abbrev pub beginning : Whole → Reply → State → Next
beginning code (Began function argument) st = first (slice_get code.starts function) argument st
beginning code reply st = Halts

-- a thread begins with Begin
unfoldable pub asking : Ask → List ℤ → List Reply → (Reply → State → Next) → Next
asking ask locals [] go = Says ask
asking ask locals (reply ∷ replies) go = go reply (record { locals = locals; replies = replies; turns = turn_limit })

abbrev pub start : Whole → List Reply → Next
start code replies = asking (outcome.ask_at 0 op.Begin) [] replies (beginning code)
