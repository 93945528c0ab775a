-- What an effect does to a configuration.
use Rattle.std.specs.Prelude.{◌≡◌, ℕ, ◌+◌, ◌-◌, List, [], ◌∷◌, Option, Some, None, ℤ, pos, negsuc, ◌-ℤ◌, drop}
use Rattle.c11_num.specs.Ranges.{TypedNumber}
use Rattle.c11_num.specs.Wrapping.{wrapped}
use Rattle.c11_num.specs.declared.value.CType.{CType}
use Rattle.c11_events.specs.declared.op.Op.TheVariants.{Stop}
use Rattle.c11_events.specs.declared.op.StopKind.{StopKind}
use Rattle.c11_events.specs.declared.reply.Reply as spec
use Rattle.c11_events.specs.declared.op.StopKind.TheVariants.{Bounds}
use Rattle.c11_meaning.specs.Outcome.{State, Outcome, turn_limit}
use Rattle.c11_meaning.specs.Outcome as outcome
use Rattle.c11_meaning.specs.Objects.{element}
use Rattle.c11_flat.specs.Spans.{Span}
use Rattle.c11_flat.specs.declared.instr.Instr.{Instr}
use Rattle.c11_flat.specs.declared.slot.Slot.{Slot}
use Rattle.c11_flat.specs.declared.slot.Slot.TheVariants.{Value}
use Rattle.c11_flat.specs.Code.{Whole}
use Rattle.c11_flat.specs.Flat.{Config, Next, To, Says, Halts, act}
use Rattle.c11_machine.specs.Answers.{wrote}
use Rattle.c11_machine.specs.declared.answer.Answer.{Answer}
use Rattle.c11_machine.specs.declared.effect.Budget.{Budget}
use Rattle.c11_machine.specs.declared.effect.Budget.TheVariants.{Kept, Turn, Reply}
use Rattle.c11_machine.specs.declared.effect.Change.{Change}
use Rattle.c11_machine.specs.declared.effect.Written.{Written}
use Rattle.c11_machine.specs.declared.effect.Effect.{Effect}
use Rattle.c11_machine.specs.declared.effect.Effect.TheVariants.{Moves, Asks, Stuck}

abbrev pub put : Option Slot → List Slot → List Slot
put None stack = stack
put (Some slot) stack = slot ∷ stack

abbrev pub target : Option ℕ → ℕ → ℕ
target None place = place + 1
target (Some to) place = to

abbrev pub charged : Budget → State → State
charged Kept st = st
charged Turn st = record st { turns = st.turns - 1 }
charged Reply st = record st { replies = []; turns = turn_limit }

abbrev pub moved : Change → Config → Config
moved change c = record c {
  place = target change.to c.place;
  stack = put change.puts (drop change.takes c.stack);
  state = record (charged change.budget c.state) { locals = wrote change.writes c.state.locals };
}

abbrev pub meant : Effect → Config → Next
meant (Moves change) c = To (moved change c)
meant (Asks ask) c = Says ask
meant Stuck c = Halts

-- the instruction has this effect there
unfoldable pub ActsAs : Instr → Effect → Config → Type 0
ActsAs instr effect c = (code : Whole) → act code instr c ≡ meant effect c

-- ---- effects of some forms

abbrev pub replaces : ℕ → Slot → Option Written → Effect
replaces takes slot writes = Moves (record { takes = takes; puts = Some slot; writes = writes; to = None; budget = Kept })

abbrev pub puts : ℕ → Slot → Effect
puts takes slot = replaces takes slot None

abbrev pub gives : ℕ → TypedNumber → Effect
gives takes value = puts takes (Value value)

abbrev pub goes : ℕ → Option ℕ → Budget → Effect
goes takes to budget = Moves (record { takes = takes; puts = None; writes = None; to = to; budget = budget })

-- a Stop wants a reply, and goes on with none
abbrev pub stopped : ℕ → StopKind → Option spec.Reply → Effect
stopped line kind None = Asks (record { line = line; op = Stop kind })
stopped line kind (Some reply) = Stuck

-- how an operation goes on with its reply
abbrev pub replied_by : Option Answer → ℕ → Effect
replied_by None takes = Stuck
replied_by (Some answer) takes = Moves (record { takes = takes; puts = Some (Value answer.value); writes = answer.writes; to = None; budget = Reply })

-- the element of an index, where it is inside of the array
abbrev pub indexed : Option ℕ → ℕ → State → Outcome ℕ
indexed None line st = outcome.stop line Bounds st
indexed (Some place) line st = outcome.Gives place st

abbrev pub IndexIs : Option ℕ → Span → ℤ → Type 0
IndexIs found span index = (line : ℕ) (st : State) → element line span.base span.size index st ≡ indexed found line st

-- ---- single values

abbrev pub zero_of : CType → TypedNumber
zero_of ctype = record { ctype = ctype; number = pos 0 }

-- each bit the other way
abbrev pub flipped : TypedNumber → TypedNumber
flipped value = wrapped value.ctype (negsuc 0 -ℤ value.number)

-- ---- what becomes of the turns and the reply

abbrev pub turns_after : Budget → ℕ → ℕ
turns_after Kept turns = turns
turns_after Turn turns = turns - 1
turns_after Reply turns = turn_limit

abbrev pub reply_after : Budget → Option spec.Reply → Option spec.Reply
reply_after Kept reply = reply
reply_after Turn reply = reply
reply_after Reply reply = None
