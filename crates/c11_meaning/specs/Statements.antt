-- What a statement does, along its tree (C11 6.8).
use Rattle.std.specs.Prelude.{ℕ, zero, suc, false, List, [], ◌∷◌, Option, Some, None, pos}
use Rattle.c11_num.specs.Ranges.{TypedNumber}
use Rattle.c11_num.specs.Wrapping.{converted}
use Rattle.c11_num.specs.declared.value.CType.{CType}
use Rattle.c11_ast.specs.declared.place.Place.{Place}
use Rattle.c11_ast.specs.declared.expr.Expr.{Expr}
use Rattle.c11_ast.specs.declared.stmt.Local.{Local}
use Rattle.c11_ast.specs.declared.stmt.Block.{Block}
use Rattle.c11_ast.specs.declared.stmt.Stmt.TheOpen.{Arm-F, Block-F, Stmt-F}
use Rattle.c11_ast.specs.declared.stmt.Stmt.TheFolds.{fold-Block, map-Stmt, map-Arm, map-Block}
use Rattle.c11_events.specs.declared.op.StopKind.TheVariants as stop
use Rattle.c11_check.specs.declared.around.Around.{Around}
use Rattle.c11_check.specs.Scopes.{Scope, entered, size_in, taken, with_local, with_handle}
use Rattle.c11_check.specs.Statements.{Walk, stmt_walk, arm_walk, block_walk}
use Rattle.c11_meaning.specs.Outcome.{State, Outcome, Gives, and_then, counted, left}
use Rattle.c11_meaning.specs.Outcome as outcome
use Rattle.c11_meaning.specs.Objects.{nothing, one, with_local_at}
use Rattle.c11_meaning.specs.Expressions.{Calls, Valuing, choosing}
use Rattle.c11_meaning.specs.Evaluation.{value_of}

-- how a statement ends
pub data Flow : Type 0 where
  Next : Flow
  Breaks : Flow
  Continues : Flow
  Returns : (line : ℕ) → (value : TypedNumber) → Flow

abbrev pub Running : Type 0
Running = Scope → Calls → State → Outcome Flow

-- a statement: which scope it leaves behind it, and what is made of it
pub record Run (V : Type 0) : Type 0 where
  pub walk : Walk
  pub run : V

pub record Armed (V : Type 0) : Type 0 where
  pub walk : Walk
  pub test : Expr
  pub body : V

-- scopes do not depend on what is around
abbrev pub nothing_around : Around
nothing_around = record { answers = None; in_loop = false }

abbrev pub behind : Walk → Scope → Scope
behind walk scope = (walk nothing_around scope).scope

-- ---- in order (C11 6.8.2)

-- up to the first statement that does not go on to the next
abbrev pub going : Flow → State → (State → Outcome Flow) → Outcome Flow
going Next st go = go st
going flow st go = Gives flow st

abbrev pub in_order : List (Run Running) → Running
in_order [] scope calls st = Gives Next st
in_order (part ∷ parts) scope calls st = and_then (part.run scope calls st) (λ flow st. going flow st (in_order parts (behind part.walk scope) calls))

abbrev pub optional_run : Option (Run Running) → Running
optional_run None scope calls st = Gives Next st
optional_run (Some part) scope calls st = part.run scope calls st

-- ---- choices (C11 6.8.4.1)

-- the first arm whose test is not zero, else what the last `else` has; each in the scope in which it was checked
abbrev pub first_of : List (Armed Running) → Option (Run Running) → Running
first_of [] otherwise scope calls st = optional_run otherwise scope calls st
first_of (arm ∷ arms) otherwise scope calls st = and_then (value_of arm.test scope calls st)
    (λ value st. choosing value (arm.body scope calls st) (first_of arms otherwise (behind arm.walk scope) calls st))

-- ---- loops (C11 6.8.5); a turn is counted each time that a body is about to be run

-- what a loop does after its body
abbrev pub after_body : Flow → State → (State → Outcome Flow) → Outcome Flow
after_body Next st go = go st
after_body Continues st go = go st
after_body Breaks st go = Gives Next st
after_body (Returns line value) st go = Gives (Returns line value) st

abbrev pub Doing : Type 0 → Type 0
Doing A = State → Outcome A

-- A loop of at most so many turns, with its test first, and what comes after each body. There are no more turns than are left, so at 0
-- there is none.
abbrev pub turning : ℕ → ℕ → Doing TypedNumber → Doing Flow → Doing TypedNumber → Doing Flow
turning zero line test body next st = and_then (test st) (λ value st. choosing value (outcome.stop line stop.Local st) (Gives Next st))
turning (suc n) line test body next st = and_then (test st) (λ value st. choosing value
    (counted line st (λ st. and_then (body st) (λ flow st. after_body flow st (λ st. and_then (next st) (λ value st. turning n line test body next st)))))
    (Gives Next st))

-- the same with its body first
abbrev pub repeating : ℕ → ℕ → Doing Flow → Doing TypedNumber → Doing Flow
repeating zero line body test st = outcome.stop line stop.Local st
repeating (suc n) line body test st = counted line st (λ st. and_then (body st) (λ flow st. after_body flow st
    (λ st. and_then (test st) (λ value st. choosing value (repeating n line body test st) (Gives Next st)))))

-- what is left out gives this value
abbrev pub optional_value : Option Expr → TypedNumber → Valuing
optional_value None value scope calls st = Gives value st
optional_value (Some expr) value scope calls st = value_of expr scope calls st

-- the start has a scope of its own, in which the rest is; without a test the loop goes on
abbrev pub for_run : ℕ → Option (Run Running) → Option Expr → Option Expr → Run Running → Running
for_run line None test next body scope calls st = turning (left st) line (optional_value test one (entered scope) calls) (body.run (entered scope) calls) (optional_value next nothing (entered scope) calls) st
for_run line (Some start) test next body scope calls st = let inner = behind start.walk (entered scope) in
    and_then (start.run (entered scope) calls st) (λ flow st. going flow st (λ st. turning (left st) line (optional_value test one inner calls) (body.run inner calls) (optional_value next nothing inner calls) st))

-- ---- declarations (C11 6.7): a local is 0 each time its declaration is passed, and then gets its start

abbrev pub cleared : ℕ → ℕ → State → State
cleared place zero st = st
cleared place (suc count) st = cleared (suc place) count (with_local_at st place (pos 0))

abbrev pub started : CType → ℕ → Option Expr → Scope → Calls → State → Outcome Flow
started ctype place None scope calls st = Gives Next st
started ctype place (Some expr) scope calls st = and_then (value_of expr scope calls st) (λ value st. Gives Next (with_local_at st place (converted ctype value).number))

abbrev pub locals_run : CType → List Local → Running
locals_run ctype [] scope calls st = Gives Next st
locals_run ctype (local ∷ locals) scope calls st = let size = size_in scope local.place.size in let place = scope.counts.places in
    let inner = with_local scope local.place.word.name ctype size in
    and_then (started ctype place local.start inner calls (cleared place (taken size) st)) (λ flow st. locals_run ctype locals inner calls st)

abbrev pub handles_run : List Place → Running
handles_run [] scope calls st = Gives Next st
handles_run (handle ∷ handles) scope calls st = let size = size_in scope handle.size in
    handles_run handles (with_handle scope handle.word.name size) calls (cleared scope.counts.places (taken size) st)

-- ---- along the tree

abbrev pub walk_of_run : {V : Type 0} → Run V → Walk
walk_of_run part = part.walk

abbrev pub walk_of_armed : {V : Type 0} → Armed V → Walk
walk_of_armed arm = arm.walk

abbrev pub arm_step : {V : Type 0} → Arm-F (Run V) (Armed V) (Run V) → Armed V
arm_step {V = V} arm = record { walk = arm_walk (map-Arm (Run V) (Armed V) (Run V) Walk Walk Walk walk_of_run walk_of_armed walk_of_run arm); test = arm.test; body = arm.body.run }

-- what is made of a block, by what is made of its items
abbrev pub block_step : {V : Type 0} → (List (Run V) → V) → Block-F (Run V) (Armed V) (Run V) → Run V
block_step {V = V} step block = record { walk = block_walk (map-Block (Run V) (Armed V) (Run V) Walk Walk Walk walk_of_run walk_of_armed walk_of_run block); run = step block.items }

-- what is made of a statement, by what is made of its parts
abbrev pub stmt_step : {V : Type 0} → (Stmt-F (Run V) (Armed V) (Run V) → V) → Stmt-F (Run V) (Armed V) (Run V) → Run V
stmt_step {V = V} step layer = record { walk = stmt_walk (map-Stmt (Run V) (Armed V) (Run V) Walk Walk Walk walk_of_run walk_of_armed walk_of_run layer); run = step layer }

abbrev pub run_step : Stmt-F (Run Running) (Armed Running) (Run Running) → Running
run_step (Stmt-F.Block block) scope calls st = block.run (entered scope) calls st
run_step (Stmt-F.Empty spot) scope calls st = Gives Next st
run_step (Stmt-F.Expr expr) scope calls st = and_then (value_of expr scope calls st) (λ value st. Gives Next st)
run_step (Stmt-F.If spot arms otherwise) scope calls st = first_of arms otherwise scope calls st
run_step (Stmt-F.While spot test body) scope calls st = turning (left st) spot.line (value_of test scope calls) (body.run scope calls) (λ st. Gives nothing st) st
run_step (Stmt-F.Do spot body test) scope calls st = repeating (left st) spot.line (body.run scope calls) (value_of test (behind body.walk scope) calls) st
run_step (Stmt-F.For spot start test next body) scope calls st = for_run spot.line start test next body scope calls st
run_step (Stmt-F.Break spot) scope calls st = Gives Breaks st
run_step (Stmt-F.Continue spot) scope calls st = Gives Continues st
run_step (Stmt-F.Return spot value) scope calls st = and_then (optional_value value nothing scope calls st) (λ value st. Gives (Returns spot.line value) st)
run_step (Stmt-F.Locals spot ctype locals) scope calls st = locals_run ctype locals scope calls st
run_step (Stmt-F.Handles spot places) scope calls st = handles_run places scope calls st

abbrev pub run_of_block : Block → Run Running
run_of_block = fold-Block (Run Running) (Armed Running) (Run Running) (stmt_step run_step) arm_step (block_step in_order)
