-- Each kind of statement, by its parts.
use Rattle.std.proofs.Common.{◌≡◌, List, Option, Some, None, ap, ◌∙◌, sym, map}
use Rattle.c11_ast.specs.declared.place.Spot.{Spot}
use Rattle.c11_ast.specs.declared.place.Place.{Place}
use Rattle.c11_ast.specs.declared.expr.Expr.{Expr}
use Rattle.c11_ast.specs.declared.stmt.Stmt.{Stmt, roll-Stmt, map-Stmt}
use Rattle.c11_ast.specs.declared.stmt.Stmt.TheVariants as s
use Rattle.c11_ast.specs.declared.stmt.Arm.{Arm}
use Rattle.c11_ast.specs.declared.stmt.Block.{Block}
use Rattle.c11_ast.specs.declared.stmt.Stmt.TheOpen.{Stmt-F}
use Rattle.c11_ast.specs.declared.stmt.Stmt.TheFolds.{fold-roll-Stmt, fold_out-Arm, fold_out-Block}
use Rattle.c11_meaning.specs.Statements.{Run, Armed, arm_step, block_step, stmt_step}
use Rattle.c11_flat.specs.Code.{Laying, in_order, strip_step, strip_of_block}
use Rattle.c11_lower.specs.Lowered.{laid, armed}

abbrev layer : Stmt-F (Run Laying) (Armed Laying) (Run Laying) → Run Laying
layer = stmt_step strip_step

abbrev rolled : (x : Stmt-F Stmt Arm Block) → laid (roll-Stmt x) ≡ layer (map-Stmt Stmt Arm Block (Run Laying) (Armed Laying) (Run Laying) laid armed strip_of_block x)
rolled = fold-roll-Stmt (Run Laying) (Armed Laying) (Run Laying) layer arm_step (block_step in_order)

pub arm_is : (x : Arm) → armed x ≡ arm_step (record { test = x.test; body = laid x.body })
arm_is x = fold_out-Arm (Run Laying) (Armed Laying) (Run Laying) layer arm_step (block_step in_order) x

pub block_of_is : (x : Block) → strip_of_block x ≡ block_step in_order (record { spot = x.spot; items = map laid x.items; close = x.close })
block_of_is x = fold_out-Block (Run Laying) (Armed Laying) (Run Laying) layer arm_step (block_step in_order) x

pub block_is : (x : Stmt) (block : Block) → x ≡ s.Block block → laid x ≡ layer (Stmt-F.Block (block_step in_order (record { spot = block.spot; items = map laid block.items; close = block.close })))
block_is x block is = ap laid (is ∙ sym (s.rolls-Block block)) ∙ (rolled (Stmt-F.Block block) ∙ ap (λ (r : Run Laying). layer (Stmt-F.Block r)) (block_of_is block))

pub if_none_is : (x : Stmt) (spot : Spot) (arms : List Arm) → x ≡ s.If spot arms None → laid x ≡ layer (Stmt-F.If spot (map armed arms) None)
if_none_is x spot arms is = ap laid (is ∙ sym (s.rolls-If spot arms None)) ∙ rolled (Stmt-F.If spot arms None)

pub if_some_is : (x : Stmt) (spot : Spot) (arms : List Arm) (another : Stmt) → x ≡ s.If spot arms (Some another) → laid x ≡ layer (Stmt-F.If spot (map armed arms) (Some (laid another)))
if_some_is x spot arms another is = ap laid (is ∙ sym (s.rolls-If spot arms (Some another))) ∙ rolled (Stmt-F.If spot arms (Some another))

pub while_is : (x : Stmt) (spot : Spot) (test : Expr) (body : Stmt) → x ≡ s.While spot test body → laid x ≡ layer (Stmt-F.While spot test (laid body))
while_is x spot test body is = ap laid (is ∙ sym (s.rolls-While spot test body)) ∙ rolled (Stmt-F.While spot test body)

pub do_is : (x : Stmt) (spot : Spot) (body : Stmt) (test : Expr) → x ≡ s.Do spot body test → laid x ≡ layer (Stmt-F.Do spot (laid body) test)
do_is x spot body test is = ap laid (is ∙ sym (s.rolls-Do spot body test)) ∙ rolled (Stmt-F.Do spot body test)

pub for_none_is : (x : Stmt) (spot : Spot) (test next : Option Expr) (body : Stmt) → x ≡ s.For spot None test next body → laid x ≡ layer (Stmt-F.For spot None test next (laid body))
for_none_is x spot test next body is = ap laid (is ∙ sym (s.rolls-For spot None test next body)) ∙ rolled (Stmt-F.For spot None test next body)

pub for_some_is : (x : Stmt) (spot : Spot) (start : Stmt) (test next : Option Expr) (body : Stmt) → x ≡ s.For spot (Some start) test next body → laid x ≡ layer (Stmt-F.For spot (Some (laid start)) test next (laid body))
for_some_is x spot start test next body is = ap laid (is ∙ sym (s.rolls-For spot (Some start) test next body)) ∙ rolled (Stmt-F.For spot (Some start) test next body)

pub handles_are : (x : Stmt) (spot : Spot) (places : List Place) → x ≡ s.Handles spot places → laid x ≡ layer (Stmt-F.Handles spot places)
handles_are x spot places is = ap laid (is ∙ sym (s.rolls-Handles spot places)) ∙ rolled (Stmt-F.Handles spot places)
