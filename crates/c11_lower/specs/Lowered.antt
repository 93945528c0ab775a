-- The parts of a program by themselves: the code of each, and the scope behind it.
use Rattle.std.specs.Prelude.{◌≡◌, ℕ, ◌+◌, List, [], ◌∷◌, ◌++◌, length, map, Option, Some, None}
use Rattle.c11_num.specs.declared.value.CType.{CType}
use Rattle.c11_ast.specs.declared.place.Place.{Place}
use Rattle.c11_ast.specs.declared.stmt.Local.{Local}
use Rattle.c11_ast.specs.declared.expr.Expr.{Expr}
use Rattle.c11_ast.specs.declared.stmt.Stmt.{Stmt}
use Rattle.c11_ast.specs.declared.stmt.Arm.{Arm}
use Rattle.c11_ast.specs.declared.stmt.Block.{Block}
use Rattle.c11_ast.specs.declared.item.Function.{Function}
use Rattle.c11_ast.specs.declared.stmt.Stmt.TheFolds.{fold-Stmt, fold-Arm}
use Rattle.c11_check.specs.Scopes.{Scope}
use Rattle.c11_check.specs.Statements.{locals_walk, handles_walk}
use Rattle.c11_meaning.specs.Objects.{nothing, one}
use Rattle.c11_meaning.specs.Asks.{Runnable, runnable, inner_scope}
use Rattle.c11_meaning.specs.Statements.{Run, Armed, behind, arm_step, block_step, stmt_step}
use Rattle.c11_flat.specs.Pieces.{piece_of}
use Rattle.c11_flat.specs.declared.instr.Instr.{Instr}
use Rattle.c11_flat.specs.declared.instr.Instr.TheVariants as i
use Rattle.c11_flat.specs.Code.{Strip, Laying, plain, of_instrs, in_order, first_of, turning, repeating, strip_of_block, optional_piece, optional_alone, strip_step}

-- a statement
abbrev pub laid : Stmt → Run Laying
laid = fold-Stmt (Run Laying) (Armed Laying) (Run Laying) (stmt_step strip_step) arm_step (block_step in_order)

-- an arm of an `if`
abbrev pub armed : Arm → Armed Laying
armed = fold-Arm (Run Laying) (Armed Laying) (Run Laying) (stmt_step strip_step) arm_step (block_step in_order)

-- the code of a statement
abbrev pub strip_of : Stmt → Laying
strip_of stmt = (laid stmt).run

-- the scope behind a statement
abbrev pub passed : Stmt → Scope → Scope
passed stmt = behind (laid stmt).walk

-- statements in order
abbrev pub strip_of_all : List Stmt → Laying
strip_of_all stmts = in_order (map laid stmts)

abbrev pub passed_all : List Stmt → Scope → Scope
passed_all [] scope = scope
passed_all (stmt ∷ stmts) scope = passed_all stmts (passed stmt scope)

-- the arms of an `if`, one after the other, and a part that may be left out
abbrev pub passed_arms : List Arm → Scope → Scope
passed_arms [] scope = scope
passed_arms (arm ∷ arms) scope = passed_arms arms (passed arm.body scope)

abbrev pub passed_optional : Option Stmt → Scope → Scope
passed_optional None scope = scope
passed_optional (Some stmt) scope = passed stmt scope

-- declarations in a function
abbrev pub passed_locals : CType → List Local → Scope → Scope
passed_locals ctype locals scope = (locals_walk ctype locals scope).scope

abbrev pub passed_handles : List Place → Scope → Scope
passed_handles places scope = (handles_walk places scope).scope

-- a part that may be left out
abbrev pub optional_strip : Option Stmt → Laying
optional_strip None scope = plain []
optional_strip (Some stmt) scope = strip_of stmt scope

-- ---- sizes

-- the arms of an `if`, without what the last `else` has
abbrev pub arms_size : List Arm → Scope → ℕ
arms_size [] scope = 0
arms_size (arm ∷ arms) scope = (piece_of arm.test scope).size + (1 + ((strip_of arm.body scope).size + (1 + arms_size arms (passed arm.body scope))))

-- a value that may be left out: one instruction stands in its place, or none
abbrev pub optional_size : Option Expr → Scope → ℕ
optional_size None scope = 1
optional_size (Some expr) scope = (piece_of expr scope).size

abbrev pub alone_size : Option Expr → Scope → ℕ
alone_size None scope = 0
alone_size (Some expr) scope = (piece_of expr scope).size + 1

abbrev pub started_size : Option Expr → Scope → ℕ
started_size None scope = 0
started_size (Some expr) scope = (piece_of expr scope).size + 2

-- a loop whose next stands behind its body
abbrev pub loop_size : Option Expr → Option Expr → Stmt → Scope → ℕ
loop_size test next body scope = (strip_of body scope).size + alone_size next scope + optional_size test scope + 2

-- ---- code

abbrev pub laid_optional : Option Stmt → Option (Run Laying)
laid_optional None = None
laid_optional (Some stmt) = Some (laid stmt)

-- the arms of an `if`, and what the last `else` has
abbrev pub arms_strip : List Arm → Option Stmt → Laying
arms_strip arms otherwise = first_of (map armed arms) (laid_optional otherwise)

-- Where an `if` with these arms ends. It has the same end at each of its arms.
abbrev pub EndsAt : ℕ → List Instr → List Arm → Option Stmt → Scope → Type 0
EndsAt end code arms otherwise scope = end ≡ length code + (arms_strip arms otherwise scope).size

-- the code, and then that of a strip
abbrev pub with_strip : List Instr → Strip → ℕ → ℕ → List Instr
with_strip code strip breaks continues = code ++ strip.code (length code) breaks continues

-- the beginning of a loop: a jump to the test, and the body
abbrev pub opening : Strip → ℕ → ℕ → ℕ → List Instr
opening body next test b = let n = b + 1 + body.size in let t = n + next in i.Jump t ∷ body.code (b + 1) (t + test + 1) n

-- a `while`; a `for` behind its start; a `do`
abbrev pub while_strip : ℕ → Stmt → Expr → Laying
while_strip line body test scope = turning line (piece_of test scope) (strip_of body scope) (of_instrs [])

abbrev pub turning_strip : ℕ → Option Expr → Option Expr → Stmt → Laying
turning_strip line test next body scope = turning line (optional_piece test (i.Push one) scope) (strip_of body scope) (optional_alone next scope)

abbrev pub do_strip : ℕ → Stmt → Expr → Laying
do_strip line body test scope = repeating line (strip_of body scope) (piece_of test (passed body scope))

-- a `return`
abbrev pub return_strip : ℕ → Option Expr → Laying
return_strip line value scope = let p = optional_piece value (i.Push nothing) scope in
    record { size = p.size + 1; code = λ b breaks continues. p.code b ++ i.Return line ∷ [] }

-- the body of a function, and what is behind it
abbrev pub body_code : Block → Scope → ℕ → List Instr
body_code block scope b = let body = (strip_of_block block).run scope in let end = b + body.size in
    body.code b end end ++ (i.Push nothing ∷ i.Return block.close.line ∷ [])

-- the function, in the scope before it
abbrev pub runnable_in : Function → Scope → Runnable
runnable_in f scope = runnable f (inner_scope f scope)
