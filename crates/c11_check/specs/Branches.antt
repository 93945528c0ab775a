-- What is said of parts of an `if` and of a `for`.
use Rattle.std.specs.Prelude.{[], map, Option, Some, None}
use Rattle.c11_ast.specs.declared.stmt.Stmt.{Stmt, out-Stmt}
use Rattle.c11_ast.specs.declared.stmt.Block.{Block}
use Rattle.c11_ast.specs.declared.stmt.Arm.{Arm}
use Rattle.c11_ast.specs.declared.stmt.Stmt.TheOpen.{Stmt-F}
use Rattle.c11_check.specs.Statements.{Walk, walked, walk_of, walk_of_arm, in_order}

abbrev pub nothing : Walk
nothing around scope = walked [] scope

abbrev pub arms_in : Stmt-F Stmt Arm Block → Walk
arms_in (Stmt-F.If spot arms otherwise) = in_order (map walk_of_arm arms)
arms_in _ = nothing

-- the arms, if the statement is an `if`
abbrev pub arms_walk : Stmt → Walk
arms_walk stmt = arms_in (out-Stmt stmt)

abbrev pub optional_stmt : Option Stmt → Walk
optional_stmt None = nothing
optional_stmt (Some stmt) = walk_of stmt

abbrev pub start_in : Stmt-F Stmt Arm Block → Walk
start_in (Stmt-F.For spot start test next body) = optional_stmt start
start_in _ = nothing

-- the start, if the statement is a `for`
abbrev pub start_walk : Stmt → Walk
start_walk stmt = start_in (out-Stmt stmt)
