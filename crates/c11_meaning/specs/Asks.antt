-- What a thread of a program wants next, from the program's syntax trees and the replies that it had (C11 5.1.2.3 and 7.26.5.1).
use Rattle.std.specs.Prelude.{ℕ, zero, suc, ◌-◌, List, [], ◌∷◌, ◌++◌, length, replicate, Option, Some, None, ℤ, pos, slice_get}
use Rattle.c11_num.specs.Ranges.{TypedNumber}
use Rattle.c11_num.specs.Wrapping.{converted}
use Rattle.c11_num.specs.declared.value.CType.{CType}
use Rattle.c11_num.specs.declared.value.CType.TheVariants.{Int, Long}
use Rattle.c11_ast.specs.declared.item.Param.{Param}
use Rattle.c11_ast.specs.declared.item.Function.{Function}
use Rattle.c11_ast.specs.declared.item.Item.{Item}
use Rattle.c11_ast.specs.declared.item.Item.TheVariants as item
use Rattle.c11_ast.specs.declared.item.Program.{Program}
use Rattle.c11_events.specs.declared.op.Ask.{Ask}
use Rattle.c11_events.specs.declared.op.Op.TheVariants.{Begin, End}
use Rattle.c11_events.specs.declared.op.StopKind.TheVariants.{Depth}
use Rattle.c11_events.specs.declared.reply.Reply.{Reply}
use Rattle.c11_events.specs.declared.reply.Reply.TheVariants.{Began}
use Rattle.c11_check.specs.Scopes.{Scope, param_type, with_function, entered_function, file_scope}
use Rattle.c11_check.specs.Statements.{walk_of_block}
use Rattle.c11_check.specs.Programs.{params_walk, item_walk}
use Rattle.c11_meaning.specs.Outcome.{State, Outcome, Gives, Wants, Over, and_then, operation, stop, counted, turn_limit}
use Rattle.c11_meaning.specs.Objects.{nothing}
use Rattle.c11_meaning.specs.Expressions.{Calls}
use Rattle.c11_meaning.specs.Statements.{Flow, Returns, behind, run_of_block}

-- ---- functions

-- a function, the scope in which its block begins, and how many places its locals take
pub record Runnable : Type 0 where
  pub function : Function
  pub scope : Scope
  pub places : ℕ

abbrev pub inner_scope : Function → Scope → Scope
inner_scope f scope = (params_walk f.params (entered_function (with_function scope f))).scope

abbrev pub runnable : Function → Scope → Runnable
runnable f inner = record { function = f; scope = inner; places = (behind (walk_of_block f.body) inner).counts.places }

abbrev pub functions_of_item : Item → Scope → List Runnable
functions_of_item (item.Function f) scope = runnable f (inner_scope f scope) ∷ []
functions_of_item _ scope = []

-- the functions, in the order of their numbers
abbrev pub functions_from : List Item → Scope → List Runnable
functions_from [] scope = []
functions_from (item ∷ items) scope = functions_of_item item scope ++ functions_from items (item_walk item scope).scope

abbrev pub functions_of : Program → List Runnable
functions_of program = functions_from program.items file_scope

-- ---- calls (C11 6.5.2.2 and 6.9.1)

-- arguments are converted to the types of their parameters
abbrev pub given_numbers : List Param → List TypedNumber → List ℤ
given_numbers [] values = []
given_numbers (param ∷ params) [] = []
given_numbers (param ∷ params) (value ∷ values) = (converted (param_type param.ctype) value).number ∷ given_numbers params values

-- the parameters take the first places; the others are 0
abbrev pub first_locals : Runnable → List TypedNumber → List ℤ
first_locals r values = given_numbers r.function.params values ++ replicate (r.places - length r.function.params) (pos 0)

abbrev pub body_from : Runnable → List TypedNumber → Calls → State → Outcome Flow
body_from r values calls st = (run_of_block r.function.body).run r.scope calls (record st { locals = first_locals r values })

-- what it answers: 0 where it runs off its end (this project's own)
abbrev pub answer_of : Flow → TypedNumber
answer_of (Returns line value) = value
answer_of flow = nothing

abbrev pub answered : Option CType → Flow → TypedNumber
answered None flow = nothing
answered (Some ctype) flow = converted ctype (answer_of flow)

abbrev pub called : Option Runnable → List TypedNumber → Calls → State → Outcome TypedNumber
called None values calls st = Over
called (Some r) values calls st = and_then (body_from r values calls st) (λ flow after. Gives (answered r.function.answers flow) (record after { locals = st.locals }))

-- calls, with room for this many frames more; a call is counted after its arguments and before its frame
abbrev pub calls_of : List Runnable → ℕ → Calls
calls_of functions zero line number values st = counted line st (λ st. stop line Depth st)
calls_of functions (suc room) line number values st = counted line st (λ st. called (slice_get functions number) values (calls_of functions room) st)

-- ---- threads

-- a thread's first frame leaves room for this many
abbrev pub more_frames : ℕ
more_frames = 63

-- the line of an End: that of the return, or of the closing brace
abbrev pub end_line : Function → Flow → ℕ
end_line f (Returns line value) = line
end_line f flow = f.body.close.line

abbrev pub end_value : Function → Flow → ℤ
end_value f flow = (converted Int (answered f.answers flow)).number

-- the function of a thread, and its End, after which nothing comes
abbrev pub thread_of : List Runnable → Option Runnable → ℤ → State → Outcome TypedNumber
thread_of functions None argument st = Over
thread_of functions (Some r) argument st = and_then (body_from r (record { ctype = Long; number = argument } ∷ []) (calls_of functions more_frames) st)
    (λ flow st. operation (end_line r.function flow) (End (end_value r.function flow)) st (λ reply st. Over))

-- the reply to its Begin names the function and the argument
abbrev pub begun : List Runnable → Reply → State → Outcome TypedNumber
begun functions (Began function argument) st = thread_of functions (slice_get functions function) argument st
begun functions reply st = Over

abbrev pub wanted : Outcome TypedNumber → Option Ask
wanted (Gives value st) = None
wanted (Wants ask) = Some ask
wanted Over = None

-- What a thread wants after these replies; none after the reply to an End or a Stop, and after a Fault. It begins with Begin, which
-- no line of the program asks for.
abbrev pub asks_of : Program → List Reply → Option Ask
asks_of program replies = wanted (operation 0 Begin (record { locals = []; replies = replies; turns = turn_limit }) (begun (functions_of program)))
