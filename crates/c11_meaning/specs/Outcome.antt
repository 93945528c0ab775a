-- What a part of a thread comes to, given the replies that are left (C11 5.1.2.3).
use Rattle.std.specs.Prelude.{ℕ, zero, suc, ◌+◌, ◌*◌, List, [], ◌∷◌, Result, Ok, Err, ℤ, length}
use Rattle.c11_num.specs.Ranges.{TypedNumber}
use Rattle.c11_num.specs.declared.fault.NumFault.{NumFault}
use Rattle.c11_num.specs.declared.fault.NumFault.TheVariants as fault
use Rattle.c11_events.specs.declared.op.Ask.{Ask}
use Rattle.c11_events.specs.declared.op.Op.{Op}
use Rattle.c11_events.specs.declared.op.Op.TheVariants.{Stop}
use Rattle.c11_events.specs.declared.op.StopKind.{StopKind}
use Rattle.c11_events.specs.declared.op.StopKind.TheVariants.{Local, Overflow, Divide, Shift}
use Rattle.c11_events.specs.declared.reply.Reply.{Reply}
use Rattle.c11_events.specs.declared.reply.Reply.TheVariants.{Done, Value}

-- the numbers at the places of the running function, the replies that are left, and the turns and calls that are left before the
-- next reply
pub record State : Type 0 where
  pub locals : List ℤ
  pub replies : List Reply
  pub turns : ℕ

-- so many turns and calls may come between two replies
abbrev pub turn_limit : ℕ
turn_limit = 100000

-- a value and what is left, or the operation that wants a reply where there is none, or no answer: after an End, a Stop and a
-- Fault, and for a reply that is none to its operation
pub data Outcome (A : Type 0) : Type 0 where
  Gives : A → State → Outcome A
  Wants : Ask → Outcome A
  Over : Outcome A

-- goes on from a value
unfoldable pub and_then : {A B : Type 0} → Outcome A → (A → State → Outcome B) → Outcome B
and_then (Gives a st) go = go a st
and_then (Wants ask) go = Wants ask
and_then Over go = Over

abbrev pub ask_at : ℕ → Op → Ask
ask_at line op = record { line = line; op = op }

-- an operation takes the next reply; where there is none, it is what the thread wants
unfoldable pub with_reply : {A : Type 0} → Ask → List ℤ → List Reply → (Reply → State → Outcome A) → Outcome A
with_reply ask locals [] go = Wants ask
with_reply ask locals (reply ∷ replies) go = go reply (record { locals = locals; replies = replies; turns = turn_limit })

abbrev pub operation : {A : Type 0} → ℕ → Op → State → (Reply → State → Outcome A) → Outcome A
operation line op st go = with_reply (ask_at line op) st.locals st.replies go

-- the value that is told
abbrev pub told : Reply → State → Outcome TypedNumber
told (Value value) st = Gives value st
told reply st = Over

-- goes on with a value where the operation was done
abbrev pub when_done : TypedNumber → Reply → State → Outcome TypedNumber
when_done value Done st = Gives value st
when_done value reply st = Over

-- a Stop stands in the place of an operation, and nothing comes after it
abbrev pub stop : {A : Type 0} → ℕ → StopKind → State → Outcome A
stop line kind st = operation line (Stop kind) st (λ reply after. Over)

abbrev pub stop_of : NumFault → StopKind
stop_of fault.Overflow = Overflow
stop_of fault.Divide = Divide
stop_of fault.Shift = Shift

-- a computation at this line, which may be refused
unfoldable pub computed : ℕ → Result TypedNumber NumFault → State → Outcome TypedNumber
computed line (Ok value) st = Gives value st
computed line (Err fault) st = stop line (stop_of fault) st

-- a turn of a loop or a call, where one is left
unfoldable pub counting : {A : Type 0} → ℕ → ℕ → State → (State → Outcome A) → Outcome A
counting zero line st go = stop line Local st
counting (suc n) line st go = go (record st { turns = n })

abbrev pub counted : {A : Type 0} → ℕ → State → (State → Outcome A) → Outcome A
counted line st go = counting st.turns line st go

-- no more turns and calls than these can come
abbrev pub left : State → ℕ
left st = st.turns + length st.replies * turn_limit
