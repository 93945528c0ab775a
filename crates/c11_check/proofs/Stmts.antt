-- Each kind of statement, by its parts.
use Rattle.std.proofs.Common.{◌≡◌, List, map, Option, Some, None, sym, ap, ◌∙◌, ◌++◌}
use Rattle.c11_ast.specs.declared.place.Spot.{Spot}
use Rattle.c11_ast.specs.declared.expr.Expr.{Expr}
use Rattle.c11_ast.specs.declared.stmt.Stmt.{Stmt, roll-Stmt, map-Stmt}
use Rattle.c11_ast.specs.declared.stmt.Stmt.TheVariants as s
use Rattle.c11_ast.specs.declared.stmt.Block.{Block}
use Rattle.c11_ast.specs.declared.stmt.Arm.{Arm}
use Rattle.c11_ast.specs.declared.stmt.Stmt.TheOpen.{Stmt-F}
use Rattle.c11_ast.specs.declared.stmt.Stmt.TheFolds.{fold-roll-Stmt, fold_out-Arm, fold_out-Block}
use Rattle.c11_check.specs.declared.around.Around.{Around}
use Rattle.c11_check.specs.Scopes.{Scope, entered}
use Rattle.c11_check.specs.Expressions.{part_of, used}
use Rattle.c11_check.specs.Statements.{Walk, Walked, walked, before, followed, inside, walk_of, walk_of_arm, walk_of_block, stmt_walk, arm_walk, block_walk, in_order, optional_used, optional_alone, looping}
use Rattle.c11_check.specs.Branches.{arms_walk, arms_in, start_walk, start_in}

abbrev rolled : (x : Stmt-F Stmt Arm Block) → walk_of (roll-Stmt x) ≡ stmt_walk (map-Stmt Stmt Arm Block Walk Walk Walk walk_of walk_of_arm walk_of_block x)
rolled = fold-roll-Stmt Walk Walk Walk stmt_walk arm_walk block_walk

pub arm_is : (arm : Arm) (around : Around) (scope : Scope) → walk_of_arm arm around scope ≡ before (used (part_of arm.test) scope) (walk_of arm.body around scope)
arm_is arm around scope = ap (λ (w : Walk). w around scope) (fold_out-Arm Walk Walk Walk stmt_walk arm_walk block_walk arm)

pub while_is : (stmt : Stmt) (spot : Spot) (test : Expr) (body : Stmt) (around : Around) (scope : Scope) → stmt ≡ s.While spot test body
    → walk_of stmt around scope ≡ before (used (part_of test) scope) (walk_of body (looping around) scope)
while_is stmt spot test body around scope is = ap (λ (w : Walk). w around scope) (ap walk_of (is ∙ sym (s.rolls-While spot test body)) ∙ rolled (Stmt-F.While spot test body))

pub do_is : (stmt : Stmt) (spot : Spot) (body : Stmt) (test : Expr) (around : Around) (scope : Scope) → stmt ≡ s.Do spot body test
    → walk_of stmt around scope ≡ followed (walk_of body (looping around) scope) (λ inner. walked (used (part_of test) inner) inner)
do_is stmt spot body test around scope is = ap (λ (w : Walk). w around scope) (ap walk_of (is ∙ sym (s.rolls-Do spot body test)) ∙ rolled (Stmt-F.Do spot body test))

-- an `if` with a last `else`
pub if_is : (stmt : Stmt) (spot : Spot) (arms : List Arm) (another : Stmt) (around : Around) (scope : Scope) → stmt ≡ s.If spot arms (Some another)
    → walk_of stmt around scope ≡ followed (arms_walk stmt around scope) (walk_of another around)
if_is stmt spot arms another around scope is = ap (λ (w : Walk). w around scope) (ap walk_of (is ∙ sym (s.rolls-If spot arms (Some another))) ∙ rolled (Stmt-F.If spot arms (Some another)))
    ∙ ap (λ (w : Walk). followed (w around scope) (walk_of another around)) (sym (ap arms_walk is ∙ ap arms_in (s.outs-If spot arms (Some another))))

abbrev turning : Option Expr → Option Expr → Stmt → Around → Scope → Walked
turning test next body around inner = before (optional_used test inner ++ optional_alone next inner) (walk_of body (looping around) inner)

pub for_is : (stmt : Stmt) (spot : Spot) (start : Option Stmt) (test next : Option Expr) (body : Stmt) (around : Around) (scope : Scope) → stmt ≡ s.For spot start test next body
    → walk_of stmt around scope ≡ inside scope (followed (start_walk stmt around (entered scope)) (λ inner. before (optional_used test inner ++ optional_alone next inner) (walk_of body (looping around) inner)))
for_is stmt spot None test next body around scope is = ap (λ (w : Walk). w around scope) (ap walk_of (is ∙ sym (s.rolls-For spot None test next body)) ∙ rolled (Stmt-F.For spot None test next body))
    ∙ ap (λ (w : Walk). inside scope (followed (w around (entered scope)) (turning test next body around))) (sym (ap start_walk is ∙ ap start_in (s.outs-For spot None test next body)))
for_is stmt spot (Some start) test next body around scope is = ap (λ (w : Walk). w around scope) (ap walk_of (is ∙ sym (s.rolls-For spot (Some start) test next body)) ∙ rolled (Stmt-F.For spot (Some start) test next body))
    ∙ ap (λ (w : Walk). inside scope (followed (w around (entered scope)) (turning test next body around))) (sym (ap start_walk is ∙ ap start_in (s.outs-For spot (Some start) test next body)))

pub arms_are : (stmt : Stmt) (spot : Spot) (arms : List Arm) (otherwise : Option Stmt) → stmt ≡ s.If spot arms otherwise → arms_walk stmt ≡ in_order (map walk_of_arm arms)
arms_are stmt spot arms otherwise is = ap arms_walk is ∙ ap arms_in (s.outs-If spot arms otherwise)

pub block_is : (block : Block) (around : Around) (scope : Scope) → walk_of_block block around scope ≡ in_order (map walk_of block.items) around scope
block_is block around scope = ap (λ (w : Walk). w around scope) (fold_out-Block Walk Walk Walk stmt_walk arm_walk block_walk block)
