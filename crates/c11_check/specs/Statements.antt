-- Where in a statement or a declaration of a function faults may stand, and which names its declarations bring (C11 6.2.1, 6.7 and 6.8).
use Rattle.std.specs.Prelude.{true, List, [], ◌∷◌, ◌++◌, Option, Some, None, is_some}
use Rattle.c11_num.specs.declared.value.CType.{CType}
use Rattle.c11_ast.specs.declared.place.Constant.{Constant}
use Rattle.c11_ast.specs.declared.place.Place.{Place}
use Rattle.c11_ast.specs.declared.expr.Expr.{Expr}
use Rattle.c11_ast.specs.declared.stmt.Local.{Local}
use Rattle.c11_ast.specs.declared.stmt.Stmt.{Stmt}
use Rattle.c11_ast.specs.declared.stmt.Block.{Block}
use Rattle.c11_ast.specs.declared.stmt.Arm.{Arm}
use Rattle.c11_ast.specs.declared.stmt.Stmt.TheOpen.{Arm-F, Block-F, Stmt-F}
use Rattle.c11_ast.specs.declared.stmt.Stmt.TheFolds.{fold-Stmt, fold-Block, fold-Arm}
use Rattle.c11_check.specs.declared.fault.Fault.{Fault}
use Rattle.c11_check.specs.declared.around.Around.{Around}
use Rattle.c11_check.specs.Scopes.{Scope, entered, left_for, size_in, with_local, with_handle, place_limit}
use Rattle.c11_check.specs.Faults.{twice, misconstant, misinitialized, missized, too_many, outside, misreturned}
use Rattle.c11_check.specs.Expressions.{part_of, alone, used}

-- the faults in a part of a program, and the scope behind it
pub record Walked : Type 0 where
  pub faults : List Fault
  pub scope : Scope

abbrev pub walked : List Fault → Scope → Walked
walked found scope = record { faults = found; scope = scope }

-- these faults, and then those of the rest
abbrev pub before : List Fault → Walked → Walked
before found rest = record { faults = found ++ rest.faults; scope = rest.scope }

-- one part, and then, in the scope that it leaves, the next
abbrev pub followed : Walked → (Scope → Walked) → Walked
followed first next = before first.faults (next first.scope)

-- what it declares ends with it
abbrev pub inside : Scope → Walked → Walked
inside outer inner = record { faults = inner.faults; scope = left_for outer inner.scope }

-- ---- declarations (C11 6.7)

abbrev pub size_faults : Scope → Option Constant → List Fault
size_faults scope None = []
size_faults scope (Some size) = misconstant scope size.value

-- a name that a function declares
abbrev pub declarator_faults : Scope → Place → List Fault
declarator_faults scope place = twice scope place.word ++ (size_faults scope place.size ++ (missized scope place 0
    ++ too_many place_limit scope.counts.places (size_in scope place.size) place.word))

abbrev pub optional_used : Option Expr → Scope → List Fault
optional_used None scope = []
optional_used (Some expr) scope = used (part_of expr) scope

abbrev pub optional_alone : Option Expr → Scope → List Fault
optional_alone None scope = []
optional_alone (Some expr) scope = alone (part_of expr) scope

-- the name may be used in its own start
abbrev pub local_walk : CType → Local → Scope → Walked
local_walk ctype local scope = let place = local.place in let inner = with_local scope place.word.name ctype (size_in scope place.size) in
    walked (declarator_faults scope place ++ (misinitialized place (is_some local.start) ++ optional_used local.start inner)) inner

abbrev pub locals_walk : CType → List Local → Scope → Walked
locals_walk ctype [] scope = walked [] scope
locals_walk ctype (local ∷ locals) scope = followed (local_walk ctype local scope) (locals_walk ctype locals)

abbrev pub handle_walk : Place → Scope → Walked
handle_walk place scope = walked (declarator_faults scope place) (with_handle scope place.word.name (size_in scope place.size))

abbrev pub handles_walk : List Place → Scope → Walked
handles_walk [] scope = walked [] scope
handles_walk (place ∷ places) scope = followed (handle_walk place scope) (handles_walk places)

-- ---- statements (C11 6.8), along the tree

abbrev pub Walk : Type 0
Walk = Around → Scope → Walked

abbrev pub looping : Around → Around
looping around = record { answers = around.answers; in_loop = true }

abbrev pub in_order : List Walk → Walk
in_order [] around scope = walked [] scope
in_order (walk ∷ walks) around scope = followed (walk around scope) (in_order walks around)

abbrev pub optional_walk : Option Walk → Walk
optional_walk None around scope = walked [] scope
optional_walk (Some walk) around scope = walk around scope

abbrev pub arm_walk : Arm-F Walk Walk Walk → Walk
arm_walk arm around scope = before (used (part_of arm.test) scope) (arm.body around scope)

-- A block without its braces: it is the statement, or the function, that begins a scope.
abbrev pub block_walk : Block-F Walk Walk Walk → Walk
block_walk block = in_order block.items

abbrev pub for_walk : Option Walk → Option Expr → Option Expr → Walk → Walk
for_walk start test next body around scope = inside scope (followed (optional_walk start around (entered scope))
    (λ inner. before (optional_used test inner ++ optional_alone next inner) (body (looping around) inner)))

abbrev pub stmt_walk : Stmt-F Walk Walk Walk → Walk
stmt_walk (Stmt-F.Block block) around scope = inside scope (block around (entered scope))
stmt_walk (Stmt-F.Empty spot) around scope = walked [] scope
stmt_walk (Stmt-F.Expr expr) around scope = walked (alone (part_of expr) scope) scope
stmt_walk (Stmt-F.If spot arms otherwise) around scope = followed (in_order arms around scope) (optional_walk otherwise around)
stmt_walk (Stmt-F.While spot test body) around scope = before (used (part_of test) scope) (body (looping around) scope)
stmt_walk (Stmt-F.Do spot body test) around scope = followed (body (looping around) scope) (λ inner. walked (used (part_of test) inner) inner)
stmt_walk (Stmt-F.For spot start test next body) around scope = for_walk start test next body around scope
stmt_walk (Stmt-F.Break spot) around scope = walked (outside around.in_loop spot) scope
stmt_walk (Stmt-F.Continue spot) around scope = walked (outside around.in_loop spot) scope
stmt_walk (Stmt-F.Return spot value) around scope = walked (misreturned around.answers spot (is_some value) ++ optional_used value scope) scope
stmt_walk (Stmt-F.Locals spot ctype locals) around scope = locals_walk ctype locals scope
stmt_walk (Stmt-F.Handles spot places) around scope = handles_walk places scope

abbrev pub walk_of : Stmt → Walk
walk_of = fold-Stmt Walk Walk Walk stmt_walk arm_walk block_walk

abbrev pub walk_of_block : Block → Walk
walk_of_block = fold-Block Walk Walk Walk stmt_walk arm_walk block_walk

abbrev pub walk_of_arm : Arm → Walk
walk_of_arm = fold-Arm Walk Walk Walk stmt_walk arm_walk block_walk
