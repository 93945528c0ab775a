-- Calls and whole threads of a program without a fault ask for what is legal.
use Rattle.std.proofs.Common.{◌≡◌, inr, ℕ, zero, suc, ◌-◌, ◌<◌, ◌≤◌, ◌^◌, Bool, true, false, List, [], ◌∷◌, ◌++◌, length, Option, Some, None, refl, sym, ap, ◌∙◌, subst, arith, true≢false, unwrap_or, ℤ, pos}
use Rattle.std.specs.Prelude.{⊤, slice_get, replicate}
use Rattle.c11_num.specs.Ranges.{TypedNumber}
use Rattle.c11_num.specs.declared.value.CType.TheVariants.{Long}
use Rattle.c11_ast.specs.declared.item.Param.{Param}
use Rattle.c11_ast.specs.declared.item.Function.{Function}
use Rattle.c11_ast.specs.declared.item.Item.{Item}
use Rattle.c11_ast.specs.declared.item.Item.TheVariants as item
use Rattle.c11_ast.specs.declared.item.Program.{Program}
use Rattle.c11_events.specs.declared.op.Ask.{Ask}
use Rattle.c11_events.specs.declared.op.Op.TheVariants as op
use Rattle.c11_events.specs.declared.op.StopKind.TheVariants.{Depth}
use Rattle.c11_events.specs.declared.reply.Reply.{Reply}
use Rattle.c11_events.specs.declared.reply.Reply.TheVariants as reply
use Rattle.c11_check.specs.declared.around.Around.{Around}
use Rattle.c11_check.specs.declared.entity.Entity.{Entity}
use Rattle.c11_check.specs.declared.entity.Entity.TheVariants as e
use Rattle.c11_check.specs.declared.fault.Rule.TheVariants as rule
use Rattle.c11_check.specs.Faults.{twice, too_many}
use Rattle.c11_check.specs.Scopes.{Scope, passes, place_limit, with_local, with_function, param_type, entered_function, file_scope}
use Rattle.c11_check.specs.Statements.{walk_of_block}
use Rattle.c11_check.specs.Programs.{HasNoFault, param_walk, params_walk, function_walk, item_walk, items_walk}
use Rattle.c11_check.specs.Tables.{declare_items, nothing_declared, tables_of}
use Rattle.c11_check.specs.Lies.{signatures_in}
use Rattle.c11_check.proofs.Grown.{AllDenoted, Lies}
use Rattle.c11_check.proofs.Lying.{IsGlobal, nil_front, nil_back, when_nil, with_places, function_lies, global_function, reached_in}
use Rattle.c11_meaning.specs.Outcome.{State, Outcome, Over, operation, turn_limit}
use Rattle.c11_meaning.specs.Objects.{option_number}
use Rattle.c11_meaning.specs.Expressions.{Calls}
use Rattle.c11_meaning.specs.Statements.{Flow}
use Rattle.c11_meaning.specs.Asks.{Runnable, inner_scope, runnable, functions_from, functions_of, given_numbers, first_locals, body_from, called, calls_of, more_frames, end_line, end_value, thread_of, begun, wanted}
use Rattle.c11_meaning.specs.Legal.{World, IsOpOf, AsksAreLegal}
use Rattle.c11_meaning.proofs.Fine.{IsKnownAt, AllKnown, known_zero, Good, Fine, fine_bind, fine_operation, fine_stop, fine_counting}
use Rattle.c11_meaning.proofs.Named.{CallsFine, Knows, OwnedIn}
use Rattle.c11_meaning.proofs.Stmts.{marked, FitsAt, fits_in, stands_local, block_is_fine}

-- ---- the first locals of a function

zeros : (k p : ℕ) → option_number (slice_get (replicate k (pos 0)) p) ≡ pos 0
zeros zero p = refl
zeros (suc k) zero = refl
zeros (suc k) (suc p) = zeros k p

zeros_behind : (xs : List ℤ) (k p : ℕ) → length xs ≤ p → option_number (slice_get (xs ++ replicate k (pos 0)) p) ≡ pos 0
zeros_behind [] k p le = zeros k p
zeros_behind (x ∷ xs) k zero le = absurd (omega (arith, le))
zeros_behind (x ∷ xs) k (suc p) le = zeros_behind xs k p (omega (arith, le))

given_few : (params : List Param) (values : List TypedNumber) → length (given_numbers params values) ≤ length params
given_few [] values = omega arith
given_few (p ∷ ps) [] = omega arith
given_few (p ∷ ps) (v ∷ vs) = let le = given_few ps vs in omega (arith, le)

no_mark : (k p : ℕ) (rest : List Bool) → slice_get (marked k false ++ rest) p ≡ Some true → k ≤ p
no_mark zero p rest is = omega arith
no_mark (suc k) zero rest is = absurd (true≢false (sym (ap (λ (o : Option Bool). unwrap_or o true) is)))
no_mark (suc k) (suc p) rest is = let le = no_mark k p rest is in omega (arith, le)

-- the marks of parameters, which are no handles
param_marks : List Param → List Bool
param_marks [] = []
param_marks (p ∷ ps) = marked 1 false ++ param_marks ps

params_marked : (params : List Param) (rest : List Bool) → param_marks params ++ rest ≡ marked (length params) false ++ rest
unfolding param_marks
params_marked [] rest = refl
params_marked (p ∷ ps) rest = ap (λ (xs : List Bool). false ∷ xs) (params_marked ps rest)

module _ (w : World) where
  -- ---- functions

  abbrev of_function : Function → Around
  of_function f = record { answers = f.answers; in_loop = false }

  -- what is known of a function where its block begins
  pub record FunctionFine (r : Runnable) : Type 0 where
    pub owners : List Bool
    pub post : List Bool
    pub rest : List Bool
    pub marks : owners ≡ marked (length r.function.params) false ++ rest
    pub fits : FitsAt owners r.scope ((block_is_fine w r.function.body).strip.mine r.scope ++ post)
    pub knows : (calls : Calls) → Knows w owners calls r.scope
    pub clean : (walk_of_block r.function.body (of_function r.function) r.scope).faults ≡ []

  good_start : (r : Runnable) (fine : FunctionFine r) (values : List TypedNumber) (st : State) → AllKnown w st.replies → Good w fine.owners (record st { locals = first_locals r values })
  good_start r fine values st known = record {
    handles = λ p is. subst (IsKnownAt w) (sym (zeros_behind (given_numbers r.function.params values) (r.places - length r.function.params) p
        (let few = given_few r.function.params values in let le = no_mark (length r.function.params) p fine.rest (sym (ap (λ (xs : List Bool). slice_get xs p) fine.marks) ∙ is) in omega (arith, few, le)))) (known_zero w);
    replies = known;
  }

  body_fine : (r : Runnable) (fine : FunctionFine r) (values : List TypedNumber) (calls : Calls) → CallsFine w calls → (st : State) → AllKnown w st.replies → Fine w (λ (flow : Flow) after. Good w fine.owners after) (body_from r values calls st)
  body_fine r fine values calls called st known =
      ((block_is_fine w r.function.body).strip.goes fine.owners calls called (of_function r.function) r.scope fine.post fine.fits (fine.knows calls) fine.clean).runs (record st { locals = first_locals r values }) (good_start r fine values st known)

  abbrev pub AllFine : List Runnable → Type 0
  AllFine functions = (n : ℕ) (r : Runnable) → slice_get functions n ≡ Some r → FunctionFine r

  good_none : (st : State) → AllKnown w st.replies → Good w [] st
  good_none st known = record { handles = λ p is. absurd (none_some is); replies = known }
    where
      none_some : None ≡ Some true → ⊥
      none_some is = cc

  called_fine : (o : Option Runnable) (values : List TypedNumber) (calls : Calls) → CallsFine w calls → ((r : Runnable) → o ≡ Some r → FunctionFine r) → (st : State) → AllKnown w st.replies
      → Fine w (λ value after. (after.locals ≡ st.locals) × AllKnown w after.replies) (called o values calls st)
  called_fine None values calls fine all st known = Fine.over
  called_fine (Some r) values calls fine all st known = fine_bind w (body_fine r (all r refl) values calls fine st known) (λ flow after good. Fine.gives (refl, good.replies))

  calls_fine : (functions : List Runnable) (room : ℕ) → AllFine functions → CallsFine w (calls_of functions room)
  calls_fine functions zero all line number values st known = fine_counting w [] _ st.turns line st _ (good_none st known) (λ m. fine_stop w _ line Depth (record st { turns = m }) known)
  calls_fine functions (suc room) all line number values st known = fine_counting w [] _ st.turns line st _ (good_none st known)
      (λ m. called_fine (slice_get functions number) values (calls_of functions room) (calls_fine functions room all) (all number) (record st { turns = m }) known)

  -- ---- threads

  thread_fine : (functions : List Runnable) → AllFine functions → (o : Option Runnable) → ((r : Runnable) → o ≡ Some r → FunctionFine r) → (argument : ℤ) (st : State) → AllKnown w st.replies → Fine w (λ (value : TypedNumber) after. ⊤) (thread_of functions o argument st)
  thread_fine functions all None found argument st known = Fine.over
  thread_fine functions all (Some r) found argument st known = let fine = found r refl in
      fine_bind w (body_fine r fine (record { ctype = Long; number = argument } ∷ []) (calls_of functions more_frames) (calls_fine functions more_frames all) st known) (λ flow st good.
      fine_operation w fine.owners _ (end_line r.function flow) (op.End (end_value r.function flow)) st _ tt good (λ r st good is. Fine.over))

  begun_fine : (functions : List Runnable) → AllFine functions → (r : Reply) (st : State) → AllKnown w st.replies → Fine w (λ (value : TypedNumber) after. ⊤) (begun functions r st)
  begun_fine functions all (reply.Began function argument) st known = thread_fine functions all (slice_get functions function) (all function) argument st known
  begun_fine functions all reply.Done st known = Fine.over
  begun_fine functions all (reply.Value v) st known = Fine.over
  begun_fine functions all (reply.Exchanged old success) st known = Fine.over
  begun_fine functions all (reply.Locked mine) st known = Fine.over
  begun_fine functions all (reply.Created thread) st known = Fine.over
  begun_fine functions all (reply.Joined v) st known = Fine.over
  begun_fine functions all (reply.Fault fault) st known = Fine.over

  wanted_legal : (o : Outcome TypedNumber) (ask : Ask) → Fine w (λ (value : TypedNumber) after. ⊤) o → wanted o ≡ Some ask → IsOpOf w ask.op
  wanted_legal _ ask (Fine.wants {ask = a} legal) is = subst (λ (a : Ask). IsOpOf w a.op) (some_ask a ask is) legal
    where
      some_ask : (a b : Ask) → Some a ≡ Some b → a ≡ b
      some_ask a b is = ap (λ (o : Option Ask). unwrap_or o a) is
  wanted_legal _ ask (Fine.gives q) is = absurd (none_ask ask is)
    where
      none_ask : (ask : Ask) → None ≡ Some ask → ⊥
      none_ask ask is = cc
  wanted_legal _ ask Fine.over is = absurd (none_ask ask is)
    where
      none_ask : (ask : Ask) → None ≡ Some ask → ⊥
      none_ask ask is = cc

  -- ---- parameters

  param_clean : (p : Param) (scope : Scope) → (param_walk p scope).faults ≡ [] → passes place_limit scope.counts.places None ≡ false
  param_clean p scope clean = when_nil (passes place_limit scope.counts.places None) rule.TooMany p.word.spot (nil_back (twice scope p.word) (too_many place_limit scope.counts.places None p.word) clean)

  params_go : (owners : List Bool) (calls : Calls) (params : List Param) (scope : Scope) (post : List Bool) → FitsAt owners scope (param_marks params ++ post) → Knows w owners calls scope → (params_walk params scope).faults ≡ []
      → FitsAt owners (params_walk params scope).scope post × Knows w owners calls (params_walk params scope).scope
  unfolding param_marks
  params_go owners calls [] scope post fits knows clean = (fits, knows)
  params_go owners calls (p ∷ ps) scope post fits knows clean =
      let inner = with_local scope p.word.name (param_type p.ctype) None in
      let here = stands_local w owners calls scope p.word.name (param_type p.ctype) None (param_marks ps ++ post) (fits_in owners scope (marked 1 false) (param_marks ps) post fits) (omega arith)
      (param_clean p scope (nil_front (param_walk p scope).faults (params_walk ps inner).faults clean)) knows in
      params_go owners calls ps inner post here.0 here.1 (nil_back (param_walk p scope).faults (params_walk ps inner).faults clean)

  -- nothing of file scope takes a place
  global_owned : (owners : List Bool) (calls : Calls) (entity : Entity) → IsGlobal entity → OwnedIn w owners calls entity
  global_owned owners calls (e.Local ctype place size) is = absurd is
  global_owned owners calls (e.Handle place size) is = absurd is
  global_owned owners calls (e.Atomic ctype cell size) is = tt
  global_owned owners calls (e.Plain ctype cell size) is = tt
  global_owned owners calls (e.Mutex mutex size) is = tt
  global_owned owners calls (e.Function function signature) is = tt
  global_owned owners calls (e.Defined value) is = tt
  global_owned owners calls (e.Library library) is = tt
  global_owned owners calls (e.Constant constant) is = tt
  global_owned owners calls (e.Order order) is = tt

  -- a function behind its head
  function_fine : (f : Function) (scope : Scope) → Lies w.tables w.functions (with_function scope f) → AllDenoted IsGlobal (with_function scope f) → (function_walk f scope).faults ≡ [] → FunctionFine (runnable f (inner_scope f scope))
  function_fine f scope lies global clean =
      let outer = entered_function (with_function scope f) in let inner = inner_scope f scope in
      let heads = nil_back (twice scope f.word) ((params_walk f.params outer).faults ++ (walk_of_block f.body (of_function f) inner).faults) clean in
      let mine = (block_is_fine w f.body).strip.mine inner in
      let owners = param_marks f.params ++ (mine ++ []) in
      let all = λ (calls : Calls). params_go owners calls f.params outer (mine ++ []) (record { front = []; is = refl; size = refl }) (record { lies = lies; owned = λ name entity is. global_owned owners calls entity (global name entity is) })
      (nil_front (params_walk f.params outer).faults (walk_of_block f.body (of_function f) inner).faults heads) in record {
        owners = owners;
        post = [];
        rest = mine ++ [];
        marks = params_marked f.params (mine ++ []);
        fits = (all (λ line function values st. Over)).0;
        knows = λ calls. (all calls).1;
        clean = nil_back (params_walk f.params outer).faults (walk_of_block f.body (of_function f) inner).faults heads;
      }

-- ---- where a function stands

pub record FoundIn (items : List Item) (scope : Scope) (r : Runnable) : Type 0 where
  pub before : List Item
  pub after : List Item
  pub function : Function
  pub items_are : items ≡ before ++ item.Function function ∷ after
  pub is : r ≡ runnable function (inner_scope function (items_walk before scope).scope)

later_found : (x : Item) (items : List Item) (scope : Scope) (r : Runnable) → FoundIn items (item_walk x scope).scope r → FoundIn (x ∷ items) scope r
later_found x items scope r f = record { before = x ∷ f.before; after = f.after; function = f.function; items_are = ap (λ (xs : List Item). x ∷ xs) f.items_are; is = f.is }

found_in : (items : List Item) (scope : Scope) (n : ℕ) (r : Runnable) → slice_get (functions_from items scope) n ≡ Some r → FoundIn items scope r
found_in [] scope n r is = absurd cc
found_in (item.Include spot ∷ items) scope n r is = later_found (item.Include spot) items scope r (found_in items (item_walk (item.Include spot) scope).scope n r is)
found_in (item.Define spot word value ∷ items) scope n r is = later_found (item.Define spot word value) items scope r (found_in items (item_walk (item.Define spot word value) scope).scope n r is)
found_in (item.Global spot kind vars ∷ items) scope n r is = later_found (item.Global spot kind vars) items scope r (found_in items (item_walk (item.Global spot kind vars) scope).scope n r is)
found_in (item.Function f ∷ items) scope zero r is = record { before = []; after = items; function = f; items_are = refl; is = sym (ap (λ (o : Option Runnable). unwrap_or o r) is) }
found_in (item.Function f ∷ items) scope (suc n) r is = later_found (item.Function f) items scope r (found_in items (item_walk (item.Function f) scope).scope n r is)

abbrev pub world_of : Program → List Reply → World
world_of program replies = record { tables = tables_of program; functions = signatures_in program.items; replies = replies }

pub all_fine : (program : Program) (replies : List Reply) → length program.items < 2 ^ 32 → HasNoFault program → AllFine (world_of program replies) (functions_of program)
all_fine program replies few clean n r is =
    let w = world_of program replies in let found = found_in program.items file_scope n r is in let f = found.function in
    let there = reached_in program few clean found.before (item.Function f ∷ found.after) found.items_are in
    let d = declare_items found.before nothing_declared in let scope = with_places d.scope there.places in
    let fine : FunctionFine w (runnable f (inner_scope f scope)) = function_fine w f scope (function_lies w.tables w.functions f found.after d there.places there.at) (global_function w.tables w.functions f d there.at.global)
    (nil_front (function_walk f scope).faults (items_walk found.after (function_walk f scope).scope).faults there.at.faultless) in
    subst (FunctionFine w) (sym (found.is ∙ ap (λ (s : Scope). runnable f (inner_scope f s)) there.scope)) fine

pub asks_are_legal : AsksAreLegal
asks_are_legal program replies ask few clean is =
    let w = world_of program replies in let functions = functions_of program in
    let known : AllKnown w replies = λ thread i at are. (are thread i at, inr (i, at)) in
    let st : State = record { locals = []; replies = replies; turns = turn_limit } in
    wanted_legal w (operation 0 op.Begin st (begun functions)) ask
    (fine_operation w [] _ 0 op.Begin st (begun functions) tt (good_none w st known) (λ r st good is. begun_fine w functions (all_fine program replies few clean) r st good.replies)) is
