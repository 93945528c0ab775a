-- The code of statements, functions and programs.
use Rattle.std.specs.Prelude.{ℕ, ◌+◌, List, [], ◌∷◌, ◌++◌, length, Option, Some, None}
use Rattle.c11_num.specs.declared.value.CType.{CType}
use Rattle.c11_ast.specs.declared.place.Place.{Place}
use Rattle.c11_ast.specs.declared.expr.Expr.{Expr}
use Rattle.c11_ast.specs.declared.stmt.Local.{Local}
use Rattle.c11_ast.specs.declared.stmt.Block.{Block}
use Rattle.c11_ast.specs.declared.stmt.Stmt.TheOpen.{Stmt-F}
use Rattle.c11_ast.specs.declared.stmt.Stmt.TheFolds.{fold-Block}
use Rattle.c11_ast.specs.declared.item.Program.{Program}
use Rattle.c11_ast.specs.declared.item.Param.{Param}
use Rattle.c11_check.specs.Scopes.{Scope, entered, size_in, taken, with_local, with_handle, param_type}
use Rattle.c11_meaning.specs.Objects.{nothing, one}
use Rattle.c11_meaning.specs.Statements.{Run, Armed, behind, arm_step, block_step, stmt_step}
use Rattle.c11_meaning.specs.Asks.{Runnable, functions_of}
use Rattle.c11_flat.specs.declared.instr.Instr.{Instr}
use Rattle.c11_flat.specs.declared.instr.Instr.TheVariants as i
use Rattle.c11_flat.specs.declared.instr.Place.TheVariants.{At}
use Rattle.c11_flat.specs.declared.instr.Storage.TheVariants as storage
use Rattle.c11_flat.specs.Pieces.{Piece, piece_of}

-- of a statement: how many instructions, and which, from where it begins and where a `break` and a `continue` go
pub record Strip : Type 0 where
  pub size : ℕ
  pub code : ℕ → ℕ → ℕ → List Instr

abbrev pub Laying : Type 0
Laying = Scope → Strip

abbrev pub of_piece : Piece → Strip
of_piece p = record { size = p.size; code = λ b breaks continues. p.code b }

abbrev pub plain : List Instr → Strip
plain instrs = record { size = length instrs; code = λ b breaks continues. instrs }

abbrev pub joined : Strip → Strip → Strip
joined p q = record { size = p.size + q.size; code = λ b breaks continues. p.code b breaks continues ++ q.code (b + p.size) breaks continues }

-- behind a test: one strip where it is not zero, else the other
abbrev pub chosen : Strip → Strip → Strip
chosen p q = record {
  size = 1 + (p.size + (1 + q.size));
  code = λ b breaks continues. let c = b + 1 + p.size in
      i.JumpIfZero (c + 1) ∷ (p.code (b + 1) breaks continues ++ (i.Jump (c + 1 + q.size) ∷ q.code (c + 1) breaks continues));
}

abbrev pub in_order : List (Run Laying) → Laying
in_order [] scope = plain []
in_order (part ∷ parts) scope = joined (part.run scope) (in_order parts (behind part.walk scope))

abbrev pub optional_run : Option (Run Laying) → Laying
optional_run None scope = plain []
optional_run (Some part) scope = part.run scope

abbrev pub first_of : List (Armed Laying) → Option (Run Laying) → Laying
first_of [] otherwise scope = optional_run otherwise scope
first_of (arm ∷ arms) otherwise scope = joined (of_piece (piece_of arm.test scope)) (chosen (arm.body scope) (first_of arms otherwise (behind arm.walk scope)))

-- a loop: a jump to the test, the body, what comes after it, the test, and the one instruction that goes back, which counts a turn
abbrev pub turning : ℕ → Piece → Strip → Piece → Strip
turning line test body next = record {
  size = 1 + (body.size + (next.size + (test.size + 1)));
  code = λ b breaks continues. let n = b + 1 + body.size in let t = n + next.size in
      i.Jump t ∷ (body.code (b + 1) (t + test.size + 1) n ++ (next.code n ++ (test.code t ++ i.TurnIf line (b + 1) ∷ [])));
}

-- the same with its body first: the first turn is counted by itself
abbrev pub repeating : ℕ → Strip → Piece → Strip
repeating line body test = record {
  size = 1 + (body.size + (test.size + 1));
  code = λ b breaks continues. let t = b + 1 + body.size in
      i.Turn line ∷ (body.code (b + 1) (t + test.size + 1) t ++ (test.code t ++ i.TurnIf line (b + 1) ∷ []));
}

abbrev pub of_instrs : List Instr → Piece
of_instrs instrs = record { size = length instrs; code = λ b. instrs }

abbrev pub alone : Piece → Piece
alone p = record { size = p.size + 1; code = λ b. p.code b ++ i.Drop ∷ [] }

-- a value that is not used
abbrev pub optional_alone : Option Expr → Scope → Piece
optional_alone None scope = of_instrs []
optional_alone (Some expr) scope = alone (piece_of expr scope)

abbrev pub optional_piece : Option Expr → Instr → Scope → Piece
optional_piece None instr scope = of_instrs (instr ∷ [])
optional_piece (Some expr) instr scope = piece_of expr scope

abbrev pub for_strip : ℕ → Option (Run Laying) → Option Expr → Option Expr → Run Laying → Laying
for_strip line None test next body scope = turning line (optional_piece test (i.Push one) (entered scope)) (body.run (entered scope)) (optional_alone next (entered scope))
for_strip line (Some start) test next body scope = let inner = behind start.walk (entered scope) in
    joined (start.run (entered scope)) (turning line (optional_piece test (i.Push one) inner) (body.run inner) (optional_alone next inner))

abbrev pub started : ℕ → CType → ℕ → Option Expr → Scope → Piece
started line ctype place None scope = of_instrs []
started line ctype place (Some expr) scope = let p = piece_of expr scope in
    record { size = p.size + 2; code = λ b. p.code b ++ (i.Write line storage.Local ctype (At place) ∷ i.Drop ∷ []) }

abbrev pub locals_strip : CType → List Local → Laying
locals_strip ctype [] scope = plain []
locals_strip ctype (local ∷ locals) scope = let size = size_in scope local.place.size in let place = scope.counts.places in
    let inner = with_local scope local.place.word.name ctype size in
    joined (plain (i.Clear place (taken size) ∷ [])) (joined (of_piece (started local.place.word.spot.line ctype place local.start inner)) (locals_strip ctype locals inner))

abbrev pub handles_strip : List Place → Laying
handles_strip [] scope = plain []
handles_strip (handle ∷ handles) scope = let size = size_in scope handle.size in
    joined (plain (i.Clear scope.counts.places (taken size) ∷ [])) (handles_strip handles (with_handle scope handle.word.name size))

abbrev pub strip_step : Stmt-F (Run Laying) (Armed Laying) (Run Laying) → Laying
strip_step (Stmt-F.Block block) scope = block.run (entered scope)
strip_step (Stmt-F.Empty spot) scope = plain []
strip_step (Stmt-F.Expr expr) scope = of_piece (alone (piece_of expr scope))
strip_step (Stmt-F.If spot arms otherwise) scope = first_of arms otherwise scope
strip_step (Stmt-F.While spot test body) scope = turning spot.line (piece_of test scope) (body.run scope) (of_instrs [])
strip_step (Stmt-F.Do spot body test) scope = repeating spot.line (body.run scope) (piece_of test (behind body.walk scope))
strip_step (Stmt-F.For spot start test next body) scope = for_strip spot.line start test next body scope
strip_step (Stmt-F.Break spot) scope = record { size = 1; code = λ b breaks continues. i.Jump breaks ∷ [] }
strip_step (Stmt-F.Continue spot) scope = record { size = 1; code = λ b breaks continues. i.Jump continues ∷ [] }
strip_step (Stmt-F.Return spot value) scope = let p = optional_piece value (i.Push nothing) scope in
    record { size = p.size + 1; code = λ b breaks continues. p.code b ++ i.Return spot.line ∷ [] }
strip_step (Stmt-F.Locals spot ctype locals) scope = locals_strip ctype locals scope
strip_step (Stmt-F.Handles spot places) scope = handles_strip places scope

abbrev pub strip_of_block : Block → Run Laying
strip_of_block = fold-Block (Run Laying) (Armed Laying) (Run Laying) (stmt_step strip_step) arm_step (block_step in_order)

-- ---- functions and programs

-- where a function's code begins, and what a call of it makes
pub record Start : Type 0 where
  pub place : ℕ
  pub params : List CType
  pub places : ℕ
  pub answers : Option CType

abbrev pub types_of : List Param → List CType
types_of [] = []
types_of (param ∷ params) = param_type param.ctype ∷ types_of params

abbrev pub start_of : ℕ → Runnable → Start
start_of b r = record { place = b; params = types_of r.function.params; places = r.places; answers = r.function.answers }

-- a function's body, at whose end it answers 0
abbrev pub function_size : Runnable → ℕ
function_size r = ((strip_of_block r.function.body).run r.scope).size + 2

abbrev pub function_code : Runnable → ℕ → List Instr
function_code r b = let body = (strip_of_block r.function.body).run r.scope in let end = b + body.size in
    body.code b end end ++ (i.Push nothing ∷ i.Return r.function.body.close.line ∷ [])

abbrev pub starts_from : ℕ → List Runnable → List Start
starts_from b [] = []
starts_from b (r ∷ rs) = start_of b r ∷ starts_from (b + function_size r) rs

abbrev pub instrs_from : ℕ → List Runnable → List Instr
instrs_from b [] = []
instrs_from b (r ∷ rs) = function_code r b ++ instrs_from (b + function_size r) rs

pub record Whole : Type 0 where
  pub instrs : List Instr
  pub starts : List Start

-- the code of a program
abbrev pub whole_of : Program → Whole
whole_of program = record { instrs = instrs_from 0 (functions_of program); starts = starts_from 0 (functions_of program) }
