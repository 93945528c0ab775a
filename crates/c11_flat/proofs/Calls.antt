-- Calls, and whole threads.
use Rattle.std.proofs.Common.{◌≡◌, ℕ, zero, suc, ◌+◌, ◌-◌, ◌*◌, ◌<◌, ◌≤◌, true, false, List, [], ◌∷◌, ◌++◌, length, Option, Some, None, refl, ap, ◌∙◌, sym, subst, arith, append_assoc, length-append}
use Rattle.std.specs.Prelude.{slice_get, replicate, nat_lt, ℤ, pos}
use Rattle.std.proofs.Math.Seq.{get_or-append_seam}
use Rattle.std.proofs.lemmas.Option.{slice_get-get_or}
use Rattle.std.proofs.lemmas.Bool.Decides.{nat_tests}
use Rattle.c11_num.specs.Ranges.{TypedNumber}
use Rattle.c11_num.specs.Wrapping.{converted}
use Rattle.c11_num.specs.declared.value.CType.{CType}
use Rattle.c11_num.specs.declared.value.CType.TheVariants.{Long}
use Rattle.c11_ast.specs.declared.item.Param.{Param}
use Rattle.c11_ast.specs.declared.item.Function.{Function}
use Rattle.c11_ast.specs.declared.item.Program.{Program}
use Rattle.c11_events.specs.declared.op.Ask.{Ask}
use Rattle.c11_events.specs.declared.op.StopKind.TheVariants as stop
use Rattle.c11_events.specs.declared.reply.Reply.{Reply}
use Rattle.c11_events.specs.declared.reply.Reply.TheVariants as reply
use Rattle.c11_check.specs.Scopes.{param_type}
use Rattle.c11_meaning.specs.Outcome.{State, Outcome, Gives, Wants, Over, and_then, counting, left, turn_limit}
use Rattle.c11_meaning.specs.Outcome as outcome
use Rattle.c11_meaning.specs.Objects.{nothing}
use Rattle.c11_meaning.specs.Expressions.{Calls}
use Rattle.c11_meaning.specs.Statements.{Flow, Next, Breaks, Continues, Returns}
use Rattle.c11_meaning.specs.Asks.{Runnable, functions_of, given_numbers, first_locals, body_from, answer_of, answered, called, calls_of, more_frames, end_line, thread_of, begun, wanted, asks_of}
use Rattle.c11_flat.specs.declared.instr.Instr.{Instr}
use Rattle.c11_flat.specs.declared.instr.Instr.TheVariants as i
use Rattle.c11_flat.specs.declared.slot.Slot.{Slot}
use Rattle.c11_flat.specs.declared.slot.Slot.TheVariants as slot
use Rattle.c11_flat.specs.Code.{Whole, Start, types_of, start_of, strip_of_block, function_size, function_code, starts_from, instrs_from, whole_of}
use Rattle.c11_flat.specs.Flat.{Caller, Config, To, Says, Halts, from, act, act_at, next, steps, numbers_in, locals_in, entering, calling, answer_in, returning, first, beginning, asking, start}
use Rattle.c11_flat.specs.Flat as flat
use Rattle.c11_flat.specs.Law.{AsksAsTrees, FlatAsksAsTrees}
use Rattle.c11_flat.proofs.Follows.{Follows, Reaches, reaches_on, steps_add, follows_bind, follows_step, HasAt, has_front, has_back, config}
use Rattle.c11_flat.proofs.Parts.{Any}
use Rattle.c11_flat.proofs.Library.{CallsDo, stacked_all, takes_args}
use Rattle.c11_flat.proofs.Stmts.{follows_stop, flow_to, block_does}

-- a call that is counted
counts_call : {A : Type 0} (code : Whole) (most t line : ℕ) (P : A → Type 0) (st : State) (to : A → State → flat.Next) (go' : State → flat.Next) (go : State → Outcome A) → t ≡ st.turns → left st ≤ most
    → ((after : State) → left after ≤ most → after.locals ≡ st.locals → Follows code most P (go' after) to (go after)) → Follows code most P (flat.counting t line st go') to (counting t line st go)
unfolding counting
counts_call code most zero line P st to go' go e le rest = follows_stop code most P to line stop.Local st
counts_call code most (suc t) line P st to go' go e le rest = rest (record st { turns = t }) (omega (arith, le, e)) refl

-- where a function begins, and its code there
abbrev pub IsStart : Whole → Option Start → Option Runnable → Type 0
IsStart code s None = s ≡ None
IsStart code s (Some r) = (place : ℕ) × ((s ≡ Some (start_of place r)) × HasAt code place (function_code r place))

-- ---- locals

numbers_same : (params : List Param) (values : List TypedNumber) → numbers_in (types_of params) values ≡ given_numbers params values
numbers_same [] values = refl
numbers_same (p ∷ ps) [] = refl
numbers_same (p ∷ ps) (v ∷ vs) = ap (λ (ns : List ℤ). (converted (param_type p.ctype) v).number ∷ ns) (numbers_same ps vs)

length-types : (params : List Param) → length (types_of params) ≡ length params
length-types [] = refl
length-types (p ∷ ps) = ap suc (length-types ps)

locals_same : (place : ℕ) (r : Runnable) (values : List TypedNumber) → locals_in (start_of place r) values ≡ first_locals r values
locals_same place r values = ap (λ (ns : List ℤ). ns ++ replicate (r.places - length (types_of r.function.params)) (pos 0)) (numbers_same r.function.params values)
    ∙ ap (λ (n : ℕ). given_numbers r.function.params values ++ replicate (r.places - n) (pos 0)) (length-types r.function.params)

answer_same : (ctype : Option CType) (flow : Flow) → answer_in ctype (answer_of flow) ≡ answered ctype flow
answer_same None flow = refl
answer_same (Some ctype) flow = refl

module _ (code : Whole) where
  -- ---- no room for a frame

  no_room : (functions : List Runnable) (callers : List Caller) (answers : Option CType) → 63 ≤ length callers → CallsDo code callers answers (calls_of functions 0)
  no_room functions callers answers many most place line function vs stack st le here =
      follows_step code most Any _ (i.Call line function (length vs)) (config code callers answers place (stacked_all vs stack) st) (calling code line function (config code callers answers place (stacked_all vs stack) st) vs stack) here
      (takes_args (length vs) vs stack _ refl)
      (counts_call code most st.turns line Any st _ _ _ refl le (λ after le same. let no : nat_lt (length callers) 63 ≡ false = grind (arith, nat_tests, many) in rw no (follows_stop code most Any _ line stop.Depth after)))

  abbrev full : List Caller
  full = replicate 63 (record { place = 0; answers = None; locals = [] })

  length_full : length full ≡ 63
  length_full = refl

  laid : (r : Runnable) (b k l : ℕ) → length (((strip_of_block r.function.body).run r.scope).code b k l) ≡ ((strip_of_block r.function.body).run r.scope).size
  laid r b k l = (block_does code full None (calls_of [] 0) (no_room [] full None (omega (arith, length_full))) r.function.body).strip.laid r.scope b k l

  function_sized : (r : Runnable) (b : ℕ) → length (function_code r b) ≡ function_size r
  function_sized r b = let body = (strip_of_block r.function.body).run r.scope in let end = b + body.size in
      omega (arith, length-append (body.code b end end) (i.Push nothing ∷ i.Return r.function.body.close.line ∷ []), laid r b end end)

  found : (rs : List Runnable) (b n : ℕ) → HasAt code b (instrs_from b rs) → IsStart code (slice_get (starts_from b rs) n) (slice_get rs n)
  found [] b n has = refl
  found (r ∷ rs) b zero has = (b, (refl, has_front code b (function_code r b) (instrs_from (b + function_size r) rs) has))
  found (r ∷ rs) b (suc n) has = found rs (b + function_size r) n (has_back code b (function_size r) (function_code r b) (instrs_from (b + function_size r) rs) (function_sized r b) has)

  -- ---- a function's body, whichever way it ends

  fall : (callers : List Caller) (answers : Option CType) (line end : ℕ) (stack : List Slot) (st : State) → HasAt code end (i.Push nothing ∷ i.Return line ∷ [])
      → Reaches code (To (config code callers answers end stack st)) (returning line (answer_in answers nothing) stack callers st)
  fall callers answers line end stack st has = (2, ap (λ (x : Option Instr). next code (act_at code x (config code callers answers end stack st))) has.0 ∙ ap (λ (x : Option Instr). act_at code x (config code callers answers (end + 1) (slot.Value nothing ∷ stack) st)) has.1.0)

  ways : (callers : List Caller) (answers : Option CType) (f : Function) (end : ℕ) (stack : List Slot) → HasAt code end (i.Push nothing ∷ i.Return f.body.close.line ∷ []) → (flow : Flow) (st : State)
      → Reaches code (flow_to code callers answers end end end stack flow st) (returning (end_line f flow) (answer_in answers (answer_of flow)) stack callers st)
  ways callers answers f end stack has Next st = fall callers answers f.body.close.line end stack st has
  ways callers answers f end stack has Breaks st = fall callers answers f.body.close.line end stack st has
  ways callers answers f end stack has Continues st = fall callers answers f.body.close.line end stack st has
  ways callers answers f end stack has (Returns line v) st = (0, refl)

  retarget : {A : Type 0} {to to' : A → State → flat.Next} (most : ℕ) (P : A → Type 0) (n : flat.Next) (o : Outcome A) → ((a : A) (st : State) → Reaches code (to a st) (to' a st)) → Follows code most P n to o → Follows code most P n to' o
  retarget {to = to} {to' = to'} most P n _ on (Follows.gives {a = a} {st = st} le p q) = Follows.gives le p (reaches_on code n (to a st) (to' a st) q (on a st))
  retarget most P n _ on (Follows.wanting q) = Follows.wanting q
  retarget most P n _ on (Follows.over q) = Follows.over q

  body_does : (callers : List Caller) (calls : Calls) (r : Runnable) → CallsDo code callers r.function.answers calls → (most place : ℕ) (values : List TypedNumber) (stack : List Slot) (st : State) → left st ≤ most → HasAt code place (function_code r place)
      → Follows code most Any (To (config code callers r.function.answers place stack (record st { locals = first_locals r values }))) (λ flow after. returning (end_line r.function flow) (answer_in r.function.answers (answer_of flow)) stack callers after) (body_from r values calls st)
  body_does callers calls r calls_do most place values stack st le has =
      let body = (strip_of_block r.function.body).run r.scope in let end = place + body.size in
      let runs = block_does code callers r.function.answers calls calls_do r.function.body in
      let last = has_back code place body.size (body.code place end end) (i.Push nothing ∷ i.Return r.function.body.close.line ∷ []) (runs.strip.laid r.scope place end end) has in
      retarget most Any _ _ (ways callers r.function.answers r.function end stack last)
      (runs.strip.does r.scope stack most place end end (record st { locals = first_locals r values }) le (omega arith) (omega arith) (has_front code place (body.code place end end) (i.Push nothing ∷ i.Return r.function.body.close.line ∷ []) has))

  enters : (callers : List Caller) (answers : Option CType) (calls : Calls) (most place : ℕ) (before : List Slot) (values : List TypedNumber) (stack : List Slot) (held st : State) (s : Option Start) (r : Option Runnable) → left st ≤ most → IsStart code s r
      → ((g : Runnable) → CallsDo code (record { place = place + 1; answers = answers; locals = st.locals } ∷ callers) g.function.answers calls)
      → Follows code most Any (entering s (config code callers answers place before held) values stack st) (λ v after. To (config code callers answers (place + 1) (slot.Value v ∷ stack) after)) (called r values calls st)
  enters callers answers calls most place before values stack held st s None le is does = rw is (Follows.over (0, refl))
  enters callers answers calls most place before values stack held st s (Some r) le is does = rw (is.1.0)
      (rw (locals_same is.0 r values)
      (follows_bind code most Any Any _ (body_does (record { place = place + 1; answers = answers; locals = st.locals } ∷ callers) calls r (does r) most is.0 values stack st le is.1.1)
      (λ flow after le t. Follows.gives le tt (0, ap (λ (v : TypedNumber). To (config code callers answers (place + 1) (slot.Value v ∷ stack) (record after { locals = st.locals }))) (answer_same r.function.answers flow)))))

  pub calls_do : (functions : List Runnable) → ((n : ℕ) → IsStart code (slice_get code.starts n) (slice_get functions n)) → (room : ℕ) (callers : List Caller) (answers : Option CType) → length callers + room ≡ 63 → CallsDo code callers answers (calls_of functions room)
  calls_do functions starts zero callers answers e most place line function vs stack st le here = no_room functions callers answers (omega (arith, e)) most place line function vs stack st le here
  calls_do functions starts (suc room) callers answers e most place line function vs stack st le here =
      follows_step code most Any _ (i.Call line function (length vs)) (config code callers answers place (stacked_all vs stack) st) (calling code line function (config code callers answers place (stacked_all vs stack) st) vs stack) here
      (takes_args (length vs) vs stack _ refl)
      (counts_call code most st.turns line Any st _ _ _ refl le (λ after le same. let yes' : nat_lt (length callers) 63 ≡ true = grind (arith, nat_tests, e) in
      rw yes' (enters_from after le function (λ g locals. calls_do functions starts room (record { place = place + 1; answers = answers; locals = locals } ∷ callers) g.function.answers (omega (arith, e))))))
    where
      enters_from : (after : State) → left after ≤ most → (function : ℕ) → ((g : Runnable) (locals : List ℤ) → CallsDo code (record { place = place + 1; answers = answers; locals = locals } ∷ callers) g.function.answers (calls_of functions room))
          → Follows code most Any (entering (slice_get code.starts function) (config code callers answers place (stacked_all vs stack) st) vs stack after) (λ v after. To (config code callers answers (place + 1) (slot.Value v ∷ stack) after)) (called (slice_get functions function) vs (calls_of functions room) after)
      enters_from after le function does = enters callers answers (calls_of functions room) most place (stacked_all vs stack) vs stack st after (slice_get code.starts function) (slice_get functions function) le (starts function) (λ g. does g after.locals)

-- ---- the whole code stands in itself

has_all : (starts : List Start) (xs pre : List Instr) → HasAt (record { instrs = pre ++ xs; starts = starts }) (length pre) xs
has_all starts [] pre = tt
has_all starts (x ∷ xs) pre =
    let within : length pre < length (pre ++ x ∷ xs) = omega (arith, length-append pre (x ∷ xs)) in
    let here = slice_get-get_or (pre ++ x ∷ xs) (length pre) x within ∙ ap Some (get_or-append_seam pre x xs x) in
    let n : length (pre ++ x ∷ []) ≡ length pre + 1 = omega (arith, length-append pre (x ∷ [])) in
    let rest = has_all starts xs (pre ++ x ∷ []) in
    let rest' = subst (λ (l : List Instr). HasAt (record { instrs = l; starts = starts }) (length (pre ++ x ∷ [])) xs) (append_assoc pre (x ∷ []) xs) rest in
    (here, subst (λ (m : ℕ). HasAt (record { instrs = pre ++ x ∷ xs; starts = starts }) m xs) n rest')

pub starts_stand : (program : Program) (n : ℕ) → IsStart (whole_of program) (slice_get (whole_of program).starts n) (slice_get (functions_of program) n)
starts_stand program n = found (whole_of program) (functions_of program) 0 n (has_all (starts_from 0 (functions_of program)) (instrs_from 0 (functions_of program)) [])

abbrev nowhere : TypedNumber → State → flat.Next
nowhere v st = Halts

-- an operation of a thread, after whose reply there is no answer
ends_replies : (code : Whole) (most : ℕ) (ask : Ask) (locals : List ℤ) (replies : List Reply)
    → Follows code most Any (from (outcome.with_reply ask locals replies (λ reply st. Over)) nowhere) nowhere (outcome.with_reply ask locals replies (λ reply st. Over))
unfolding from outcome.with_reply
ends_replies code most ask locals [] = Follows.wanting (0, refl)
ends_replies code most ask locals (r ∷ rs) = Follows.over (0, refl)

main_does : (program : Program) (most : ℕ) (argument : ℤ) (st : State) (s : Option Start) (r : Option Runnable) → left st ≤ most → IsStart (whole_of program) s r
    → Follows (whole_of program) most Any (first s argument st) nowhere (thread_of (functions_of program) r argument st)
main_does program most argument st s None le is = rw is (Follows.over (0, refl))
main_does program most argument st s (Some r) le is = rw (is.1.0)
    (rw (locals_same is.0 r (record { ctype = Long; number = argument } ∷ []))
    (follows_bind (whole_of program) most Any Any _ (body_does (whole_of program) [] (calls_of (functions_of program) more_frames) r (calls_do (whole_of program) (functions_of program) (starts_stand program) 63 [] r.function.answers refl) most is.0 (record { ctype = Long; number = argument } ∷ []) [] st le is.1.1)
    (λ flow after le t. rw (answer_same r.function.answers flow) (ends_replies (whole_of program) most _ after.locals after.replies))))

begins : (program : Program) (most : ℕ) (r : Reply) (st : State) → left st ≤ most → Follows (whole_of program) most Any (beginning (whole_of program) r st) nowhere (begun (functions_of program) r st)
begins program most (reply.Began function argument) st le = main_does program most argument st _ (slice_get (functions_of program) function) le (starts_stand program function)
begins program most reply.Done st le = Follows.over (0, refl)
begins program most (reply.Value v) st le = Follows.over (0, refl)
begins program most (reply.Exchanged old success) st le = Follows.over (0, refl)
begins program most (reply.Locked taken) st le = Follows.over (0, refl)
begins program most (reply.Created thread) st le = Follows.over (0, refl)
begins program most (reply.Joined v) st le = Follows.over (0, refl)
begins program most (reply.Fault kind) st le = Follows.over (0, refl)

asks_first : (program : Program) (most : ℕ) (ask : Ask) (replies : List Reply) → length replies * turn_limit ≤ most
    → Follows (whole_of program) most Any (asking ask [] replies (beginning (whole_of program))) nowhere (outcome.with_reply ask [] replies (begun (functions_of program)))
unfolding asking outcome.with_reply
asks_first program most ask [] le = Follows.wanting (0, refl)
asks_first program most ask (r ∷ rs) le = begins program most r _ (omega (arith, le))

-- ---- the law

abbrev Answers : Whole → List Reply → Option Ask → Type 0
Answers code replies None = Reaches code (start code replies) Halts
Answers code replies (Some ask) = Reaches code (start code replies) (Says ask)

answers_of : (code : Whole) (most : ℕ) (replies : List Reply) (o : Outcome TypedNumber) → Follows code most Any (start code replies) nowhere o → Answers code replies (wanted o)
answers_of code most replies _ (Follows.gives le t q) = q
answers_of code most replies _ (Follows.wanting q) = q
answers_of code most replies _ (Follows.over q) = q

flat_asks : (program : Program) (replies : List Reply) → Answers (whole_of program) replies (asks_of program replies)
flat_asks program replies = answers_of (whole_of program) (length replies * turn_limit) replies _ (asks_first program (length replies * turn_limit) _ replies (omega arith))

-- a run that has ended stays
stays_says : (code : Whole) (j : ℕ) (ask : Ask) → steps code j (Says ask) ≡ Says ask
stays_says code zero ask = refl
stays_says code (suc j) ask = stays_says code j ask

stays_halts : (code : Whole) (j : ℕ) → steps code j Halts ≡ Halts
stays_halts code zero = refl
stays_halts code (suc j) = stays_halts code j

-- two ends of one run are one
one_end : (code : Whole) (n a b : flat.Next) (i j : ℕ) → ((k : ℕ) → steps code k a ≡ a) → ((k : ℕ) → steps code k b ≡ b) → steps code i n ≡ a → steps code j n ≡ b → a ≡ b
one_end code n a b i j stay stay' at_a at_b = sym (stay j) ∙ (ap (λ (x : flat.Next). steps code j x) (sym at_a) ∙ (sym (steps_add code (i + j) i j n refl)
    ∙ (steps_add code (i + j) j i n (omega arith) ∙ (ap (λ (x : flat.Next). steps code i x) at_b ∙ stay' i))))

says_same : (a b : Ask) → Says a ≡ Says b → a ≡ b
says_same a b e = cc e

by_answer : (program : Program) (replies : List Reply) (o : Option Ask) → asks_of program replies ≡ o → Answers (whole_of program) replies o → AsksAsTrees program replies
by_answer program replies None is r = record {
  asks = λ ask e. let clash : None ≡ Some ask = sym is ∙ e in absurd (cc clash);
  asks_only = λ ask j e. let clash = one_end (whole_of program) (start (whole_of program) replies) Halts (Says ask) r.0 j (stays_halts (whole_of program)) (λ k. stays_says (whole_of program) k ask) r.1 e in absurd (cc clash);
  ends = λ e. r;
}
by_answer program replies (Some a) is r = record {
  asks = λ ask e. let both : Some a ≡ Some ask = sym is ∙ e in let same : a ≡ ask = cc both in (r.0, r.1 ∙ ap (λ (x : Ask). Says x) same);
  asks_only = λ ask j e. let same = one_end (whole_of program) (start (whole_of program) replies) (Says a) (Says ask) r.0 j (λ k. stays_says (whole_of program) k a) (λ k. stays_says (whole_of program) k ask) r.1 e in is ∙ ap (λ (x : Ask). Some x) (says_same a ask same);
  ends = λ e. let clash : Some a ≡ None = sym is ∙ e in absurd (cc clash);
}

pub flat_asks_as_trees : FlatAsksAsTrees
flat_asks_as_trees program replies = by_answer program replies (asks_of program replies) refl (flat_asks program replies)
