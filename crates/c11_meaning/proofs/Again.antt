-- A thread that was told what it asked for goes on to ask.
use Rattle.std.proofs.Common.{◌≡◌, ℕ, zero, suc, ◌<◌, ◌^◌, List, [], ◌∷◌, ◌++◌, length, Option, Some, None, refl, sym, ap, subst, unwrap_or, ℤ}
use Rattle.std.specs.Prelude.{slice_get}
use Rattle.c11_num.specs.Ranges.{TypedNumber}
use Rattle.c11_num.specs.declared.value.CType.TheVariants.{Long}
use Rattle.c11_ast.specs.declared.item.Item.{Item}
use Rattle.c11_ast.specs.declared.item.Item.TheVariants as item
use Rattle.c11_ast.specs.declared.item.Program.{Program}
use Rattle.c11_events.specs.declared.op.Ask.{Ask}
use Rattle.c11_events.specs.declared.op.Op.TheVariants as op
use Rattle.c11_events.specs.declared.op.StopKind.TheVariants.{Depth}
use Rattle.c11_events.specs.declared.reply.Reply.{Reply}
use Rattle.c11_events.specs.declared.reply.Reply.TheVariants as reply
use Rattle.c11_check.specs.declared.entity.Signature.{Signature}
use Rattle.c11_check.specs.Scopes.{Scope, file_scope}
use Rattle.c11_check.specs.Programs.{HasNoFault, item_walk}
use Rattle.c11_check.specs.Tables.{Tables, tables_of}
use Rattle.c11_check.specs.Lies.{signatures_in}
use Rattle.c11_check.proofs.Grown.{Lies}
use Rattle.c11_meaning.specs.Outcome.{State, Outcome, Gives, Wants, Over, and_then, ask_at, with_reply, operation, left, turn_limit}
use Rattle.c11_meaning.specs.Expressions.{Calls}
use Rattle.c11_meaning.specs.Asks.{Runnable, functions_from, functions_of, first_locals, body_from, called, calls_of, more_frames, end_line, end_value, thread_of, begun, wanted}
use Rattle.c11_meaning.specs.Progress.{IsReplyTo, Ends, AsksAgain, AsksNoMore}
use Rattle.c11_meaning.proofs.Awaiting.{with_more, Below, Awaits, IsOver, Beside, Runs, Goes, below_bind, awaits_bind, beside_bind, runs_bind, runs_stop, runs_counted, runs_operation}
use Rattle.c11_meaning.proofs.Going.{CallsRun}
use Rattle.c11_meaning.proofs.Flowing.{block_goes}
use Rattle.c11_meaning.proofs.Threads.{FunctionFine, all_fine, world_of}

-- ---- what never gives a value

data Silent {A : Type 0} : Outcome A → Type 0 where
  wants : {ask : Ask} → Silent (Wants ask)
  over : Silent Over

silent_bind : {A B : Type 0} (o : Outcome A) (f : A → State → Outcome B) → ((a : A) (st : State) → Silent (f a st)) → Silent (and_then o f)
unfolding and_then
silent_bind (Gives a st) f rest = rest a st
silent_bind (Wants ask) f rest = wants
silent_bind Over f rest = over

silent_asks : {A : Type 0} (ask : Ask) (locals : List ℤ) (replies : List Reply) (go : Reply → State → Outcome A) → ((r : Reply) (st : State) → Silent (go r st)) → Silent (with_reply ask locals replies go)
unfolding with_reply
silent_asks ask locals [] go rest = wants
silent_asks ask locals (r ∷ rs) go rest = rest r _

silent_thread : (functions : List Runnable) (o : Option Runnable) (argument : ℤ) (st : State) → Silent (thread_of functions o argument st)
silent_thread functions None argument st = over
silent_thread functions (Some r) argument st = silent_bind _ _ (λ flow st. silent_asks (ask_at (end_line r.function flow) (op.End (end_value r.function flow))) st.locals st.replies _ (λ reply st. over))

silent_begun : (functions : List Runnable) (r : Reply) (st : State) → Silent (begun functions r st)
silent_begun functions (reply.Began function argument) st = silent_thread functions (slice_get functions function) argument st
silent_begun functions reply.Done st = over
silent_begun functions (reply.Value v) st = over
silent_begun functions (reply.Exchanged old success) st = over
silent_begun functions (reply.Locked mine) st = over
silent_begun functions (reply.Created thread) st = over
silent_begun functions (reply.Joined v) st = over
silent_begun functions (reply.Fault fault) st = over

-- ---- functions by their numbers

functions_there : (items : List Item) (scope : Scope) (n : ℕ) (signature : Signature) → slice_get (signatures_in items) n ≡ Some signature → (r : Runnable) × (slice_get (functions_from items scope) n ≡ Some r)
functions_there [] scope n signature is = absurd cc
functions_there (item.Include spot ∷ items) scope n signature is = functions_there items (item_walk (item.Include spot) scope).scope n signature is
functions_there (item.Define spot word value ∷ items) scope n signature is = functions_there items (item_walk (item.Define spot word value) scope).scope n signature is
functions_there (item.Global spot kind vars ∷ items) scope n signature is = functions_there items (item_walk (item.Global spot kind vars) scope).scope n signature is
functions_there (item.Function f ∷ items) scope zero signature is = (_, refl)
functions_there (item.Function f ∷ items) scope (suc n) signature is = functions_there items (item_walk (item.Function f) scope).scope n signature is

module _ (t : Tables) (fs : List Signature) (functions : List Runnable)
    (there : (n : ℕ) (signature : Signature) → slice_get fs n ≡ Some signature → (r : Runnable) × (slice_get functions n ≡ Some r))
    (lies : (n : ℕ) (r : Runnable) → slice_get functions n ≡ Some r → Lies t fs r.scope) where
  runs_body : (r : Runnable) (values : List TypedNumber) (calls : Calls) → CallsRun fs calls → Lies t fs r.scope → Runs fs (body_from r values calls)
  runs_body r values calls called within = let g = block_goes fs t calls called r.function.body r.scope within in record {
    less = λ st. g.less (record st { locals = first_locals r values });
    alone = λ st is. g.alone (record st { locals = first_locals r values }) is;
    more = λ x st. g.more x (record st { locals = first_locals r values });
  }

  runs_called : (o : Option Runnable) (r : Runnable) (values : List TypedNumber) (calls : Calls) → o ≡ Some r → CallsRun fs calls → Lies t fs r.scope → Runs fs (called o values calls)
  runs_called None r values calls is cs within = absurd (none_some r is)
    where
      none_some : (r : Runnable) → None ≡ Some r → ⊥
      none_some r is = cc
  runs_called (Some q) r values calls is cs within = let g = runs_body q values calls cs (subst (λ (p : Runnable). Lies t fs p.scope) (sym (ap (λ (o : Option Runnable). unwrap_or o q) is)) within) in record {
    less = λ st. below_bind fs (left st) (g.less st) (λ flow after le. Below.gives le);
    alone = λ st none. awaits_bind fs (g.alone st none) (λ flow after none. Awaits.gives none);
    more = λ x st. beside_bind fs x (g.more x st) (λ flow after is. Beside.gives) (λ flow after none. Awaits.gives none);
  }

  runs_calls : (room : ℕ) → CallsRun fs (calls_of functions room)
  runs_calls zero line function values signature is = runs_counted fs line _ (runs_stop fs line Depth)
  runs_calls (suc room) line function values signature is = let found = there function signature is in
      runs_counted fs line _ (runs_called (slice_get functions function) found.0 values (calls_of functions room) found.1 (runs_calls room) (lies function found.0 found.1))

  goes_end : (value : ℤ) → Goes fs {A = TypedNumber} (op.End value) (λ r st. Over)
  goes_end value = record { less = λ r st. Below.over; more = λ x r st. Beside.over; fits = λ r st is none. absurd is; ends = λ r st is. IsOver.over }

  runs_thread : (r : Runnable) (argument : ℤ) → Lies t fs r.scope → Runs fs (thread_of functions (Some r) argument)
  runs_thread r argument within = runs_bind fs (runs_body r (record { ctype = Long; number = argument } ∷ []) (calls_of functions more_frames) (runs_calls more_frames) within) (λ flow.
      runs_operation fs (end_line r.function flow) (λ locals. op.End (end_value r.function flow)) (λ locals r st. Over) (λ locals. goes_end (end_value r.function flow)))

  -- the thread of a function that may not be there
  thread_by : (o : Option Runnable) (argument : ℤ) → ((r : Runnable) → o ≡ Some r → Lies t fs r.scope) → (x : Reply) (st : State) → Below fs (left st) (thread_of functions o argument st) × Beside fs x (thread_of functions o argument st) (thread_of functions o argument (with_more x st))
  thread_by None argument within x st = (Below.over, Beside.over)
  thread_by (Some r) argument within x st = let g = runs_thread r argument (within r refl) in (g.less st, g.more x st)

  begun_by : (r x : Reply) (st : State) → Below fs (left st) (begun functions r st) × Beside fs x (begun functions r st) (begun functions r (with_more x st))
  begun_by (reply.Began function argument) x st = thread_by (slice_get functions function) argument (λ r is. lies function r is) x st
  begun_by reply.Done x st = (Below.over, Beside.over)
  begun_by (reply.Value v) x st = (Below.over, Beside.over)
  begun_by (reply.Exchanged old success) x st = (Below.over, Beside.over)
  begun_by (reply.Locked mine) x st = (Below.over, Beside.over)
  begun_by (reply.Created thread) x st = (Below.over, Beside.over)
  begun_by (reply.Joined v) x st = (Below.over, Beside.over)
  begun_by (reply.Fault fault) x st = (Below.over, Beside.over)

  begun_awaits : (r : Reply) (st : State) → IsReplyTo fs op.Begin r → st.replies ≡ [] → Awaits fs (begun functions r st)
  begun_awaits (reply.Began function argument) st is none = let found = there function is.0 is.1 in
      subst (λ (o : Option Runnable). Awaits fs (thread_of functions o argument st)) (sym found.1) ((runs_thread found.0 argument (lies function found.0 found.1)).alone st none)
  begun_awaits reply.Done st is none = absurd is
  begun_awaits (reply.Value v) st is none = absurd is
  begun_awaits (reply.Exchanged old success) st is none = absurd is
  begun_awaits (reply.Locked mine) st is none = absurd is
  begun_awaits (reply.Created thread) st is none = absurd is
  begun_awaits (reply.Joined v) st is none = absurd is
  begun_awaits (reply.Fault fault) st is none = absurd is

  begun_ends : (r : Reply) (st : State) → Ends op.Begin r → IsOver fs (begun functions r st)
  begun_ends (reply.Fault fault) st is = IsOver.over
  begun_ends (reply.Began function argument) st is = absurd is
  begun_ends reply.Done st is = absurd is
  begun_ends (reply.Value v) st is = absurd is
  begun_ends (reply.Exchanged old success) st is = absurd is
  begun_ends (reply.Locked mine) st is = absurd is
  begun_ends (reply.Created thread) st is = absurd is
  begun_ends (reply.Joined v) st is = absurd is

  goes_begun : Goes fs op.Begin (begun functions)
  goes_begun = record { less = λ r st. (begun_by r r st).0; more = λ x r st. (begun_by r x st).1; fits = begun_awaits; ends = begun_ends }

  -- ---- one reply more

  wanted_again : (o : Outcome TypedNumber) → Awaits fs o → Silent o → (next : Ask) × (wanted o ≡ Some next)
  wanted_again _ (Awaits.wants {ask = ask}) silent = (ask, refl)
  wanted_again (Gives a st) (Awaits.gives is) silent = absurd (gives_none a st silent)
    where
      gives_none : (a : TypedNumber) (st : State) → Silent (Gives a st) → ⊥
      gives_none a st s = elim s [ ]

  one_more : (o o' : Outcome TypedNumber) (x : Reply) (ask : Ask) → Beside fs x o o' → wanted o ≡ Some ask → IsReplyTo fs ask.op x → Silent o' → (next : Ask) × (wanted o' ≡ Some next)
  one_more _ o' x ask (Beside.wants {ask = a} fits ends) is kind silent = wanted_again o' (fits (subst (λ (b : Ask). IsReplyTo fs b.op x) (sym (ap (λ (o : Option Ask). unwrap_or o a) is)) kind)) silent
  one_more _ _ x ask (Beside.gives) is kind silent = absurd (no_ask ask is)
    where
      no_ask : (ask : Ask) → None ≡ Some ask → ⊥
      no_ask ask is = cc
  one_more _ o' x ask Beside.over is kind silent = absurd (no_ask ask is)
    where
      no_ask : (ask : Ask) → None ≡ Some ask → ⊥
      no_ask ask is = cc

  no_more : (o o' : Outcome TypedNumber) (x : Reply) (ask : Ask) → Beside fs x o o' → wanted o ≡ Some ask → Ends ask.op x → wanted o' ≡ None
  no_more _ o' x ask (Beside.wants {ask = a} fits ends) is last = over_none o' (ends (subst (λ (b : Ask). Ends b.op x) (sym (ap (λ (o : Option Ask). unwrap_or o a) is)) last))
    where
      over_none : (o : Outcome TypedNumber) → IsOver fs o → wanted o ≡ None
      over_none _ IsOver.over = refl
  no_more _ _ x ask (Beside.gives) is last = absurd (no_ask ask is)
    where
      no_ask : (ask : Ask) → None ≡ Some ask → ⊥
      no_ask ask is = cc
  no_more _ o' x ask Beside.over is last = absurd (no_ask ask is)
    where
      no_ask : (ask : Ask) → None ≡ Some ask → ⊥
      no_ask ask is = cc

function_at : (program : Program) → length program.items < 2 ^ 32 → HasNoFault program → (n : ℕ) (r : Runnable) → slice_get (functions_of program) n ≡ Some r → FunctionFine (world_of program []) r
function_at program few clean n r is = all_fine program [] few clean n r is

-- where what is named lies
abbrev LiesAt : Program → Type 0
LiesAt program = (n : ℕ) (r : Runnable) → slice_get (functions_of program) n ≡ Some r → Lies (tables_of program) (signatures_in program.items) r.scope

lies_at : (program : Program) → length program.items < 2 ^ 32 → HasNoFault program → LiesAt program
lies_at program few clean n r is = ((function_at program few clean n r is).knows (λ line function values st. Over)).lies

-- what a further reply makes of what a thread wants
beside_begun : (program : Program) (replies : List Reply) (x : Reply) → length program.items < 2 ^ 32 → HasNoFault program → let st : State = record { locals = []; replies = replies; turns = turn_limit } in
    Beside (signatures_in program.items) x (operation 0 op.Begin st (begun (functions_of program))) (operation 0 op.Begin (with_more x st) (begun (functions_of program)))
beside_begun program replies x few clean = let fs = signatures_in program.items in
    (runs_operation fs 0 (λ locals. op.Begin) (λ locals. begun (functions_of program)) (λ locals. goes_begun (tables_of program) fs (functions_of program) (functions_there program.items file_scope) (lies_at program few clean))).more x
    (record { locals = []; replies = replies; turns = turn_limit })

pub asks_again : AsksAgain
asks_again program replies ask x few clean is kind = let st : State = record { locals = []; replies = replies; turns = turn_limit } in let functions = functions_of program in
    one_more (tables_of program) (signatures_in program.items) functions (functions_there program.items file_scope) (lies_at program few clean) (operation 0 op.Begin st (begun functions)) (operation 0 op.Begin (with_more x st) (begun functions)) x ask
    (beside_begun program replies x few clean) is kind (silent_asks (ask_at 0 op.Begin) [] (replies ++ x ∷ []) (begun functions) (silent_begun functions))

pub asks_no_more : AsksNoMore
asks_no_more program replies ask x few clean is last = let st : State = record { locals = []; replies = replies; turns = turn_limit } in let functions = functions_of program in
    no_more (tables_of program) (signatures_in program.items) functions (functions_there program.items file_scope) (lies_at program few clean) (operation 0 op.Begin st (begun functions)) (operation 0 op.Begin (with_more x st) (begun functions)) x ask
    (beside_begun program replies x few clean) is last
