-- What an operation makes of its reply.
use Rattle.std.specs.Prelude.{ℕ, Bool, true, false, Option, Some, None, List, ℤ, pos, slice_set}
use Rattle.c11_num.specs.Ranges.{TypedNumber}
use Rattle.c11_events.specs.declared.reply.Reply.{Reply}
use Rattle.c11_meaning.specs.Outcome.{State, Outcome, Gives, Over, and_then, told, when_done}
use Rattle.c11_meaning.specs.Objects.{int_of, updated}
use Rattle.c11_meaning.specs.Library.{exchanged, when_locked, tried, created, joined}
use Rattle.c11_machine.specs.declared.answer.Answer.{Answer}
use Rattle.c11_machine.specs.declared.answer.Wanted.{Wanted}
use Rattle.c11_machine.specs.declared.answer.Wanted.TheVariants as wanted
use Rattle.c11_machine.specs.declared.effect.Written.{Written}

abbrev pub wrote : Option Written → List ℤ → List ℤ
wrote None locals = locals
wrote (Some w) locals = slice_set locals w.place w.value.number

abbrev pub with_written : Option Written → State → State
with_written writes st = record st { locals = wrote writes st.locals }

abbrev pub answered : Option Answer → State → Outcome TypedNumber
answered None st = Over
answered (Some answer) st = Gives answer.value (with_written answer.writes st)

abbrev pub answer_of : Wanted → Reply → State → Outcome TypedNumber
answer_of wanted.Told reply st = told reply st
answer_of (wanted.Done value) reply st = when_done value reply st
answer_of (wanted.Updated old kind operand) reply st = and_then (told reply st) (updated old kind operand)
answer_of (wanted.Exchanged place) reply st = exchanged place reply st
answer_of wanted.Locked reply st = when_locked reply st
answer_of wanted.Tried reply st = tried reply st
answer_of (wanted.Created place) reply st = created place reply st
answer_of (wanted.Joined place) reply st = joined place reply st

abbrev pub number_of_bool : Bool → ℤ
number_of_bool true = pos 1
number_of_bool false = pos 0

abbrev pub int_of_bool : Bool → TypedNumber
int_of_bool number = int_of (number_of_bool number)

abbrev pub only : TypedNumber → Option Answer
only value = Some (record { value = value; writes = None })

abbrev pub zero_and : ℕ → TypedNumber → Option Answer
zero_and place value = Some (record { value = int_of (pos 0); writes = Some (record { place = place; value = value }) })
