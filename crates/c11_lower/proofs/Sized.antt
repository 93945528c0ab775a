-- Code is as long as its size.
use Rattle.std.proofs.Common.{◌≡◌, ℕ, List, [], ◌∷◌, length, Option, Some, None, refl, ap, subst, arith}
use Rattle.std.proofs.lemmas.List.{length-append}
use Rattle.c11_ast.specs.declared.place.Spot.{Spot}
use Rattle.c11_ast.specs.declared.expr.Expr.{Expr}
use Rattle.c11_ast.specs.declared.stmt.Stmt.{Stmt}
use Rattle.c11_ast.specs.declared.stmt.Block.{Block}
use Rattle.c11_ast.specs.declared.stmt.Stmt.TheFolds.{fold_out-Block}
use Rattle.c11_check.specs.Scopes.{Scope}
use Rattle.c11_meaning.specs.Asks.{calls_of}
use Rattle.c11_meaning.specs.Expressions.{Calls}
use Rattle.c11_meaning.specs.Statements.{Run, Armed, arm_step, block_step, stmt_step}
use Rattle.c11_flat.specs.declared.instr.Instr.{Instr}
use Rattle.c11_flat.specs.declared.instr.Instr.TheVariants as i
use Rattle.c11_flat.specs.Pieces.{piece_of}
use Rattle.c11_flat.specs.Code.{Whole, Laying, in_order, strip_step, strip_of_block, optional_alone, optional_piece}
use Rattle.c11_flat.proofs.Library.{CallsDo}
use Rattle.c11_flat.proofs.Exprs.{expr_does}
use Rattle.c11_flat.proofs.Stmts.{block_does}
use Rattle.c11_flat.proofs.Calls.{calls_do}
use Rattle.c11_lower.specs.Lowered.{strip_of, strip_of_all}

abbrev empty : Whole
empty = record { instrs = []; starts = [] }

abbrev calls : Calls
calls = calls_of [] 63

called : CallsDo empty [] None calls
called = calls_do empty [] (λ n. refl) 63 [] None refl

pub expr_sized : (x : Expr) (s : Scope) (b : ℕ) → length ((piece_of x s).code b) ≡ (piece_of x s).size
expr_sized x s b = (expr_does empty [] None calls called x).value.sized s b

pub block_sized : (x : Block) (s : Scope) (b k l : ℕ) → length (((strip_of_block x).run s).code b k l) ≡ ((strip_of_block x).run s).size
block_sized x s b k l = (block_does empty [] None calls called x).strip.laid s b k l

block_run_is : (x : Block) → (strip_of_block x).run ≡ strip_of_all x.items
block_run_is x = ap (λ (r : Run Laying). r.run) (fold_out-Block (Run Laying) (Armed Laying) (Run Laying) (stmt_step strip_step) arm_step (block_step in_order) x)

pub all_sized : (xs : List Stmt) (s : Scope) (b k l : ℕ) → length ((strip_of_all xs s).code b k l) ≡ (strip_of_all xs s).size
all_sized xs s b k l = let spot : Spot = record { line = 0; column = 0 } in let block : Block = record { spot = spot; items = xs; close = spot } in
    subst (λ (c : Laying). length ((c s).code b k l) ≡ (c s).size) (block_run_is block) (block_sized block s b k l)

pub stmt_sized : (x : Stmt) (s : Scope) (b k l : ℕ) → length ((strip_of x s).code b k l) ≡ (strip_of x s).size
stmt_sized x s b k l = omega (arith, all_sized (x ∷ []) s b k l, length-append ((strip_of x s).code b k l) [])

pub alone_sized : (x : Option Expr) (s : Scope) (b : ℕ) → length ((optional_alone x s).code b) ≡ (optional_alone x s).size
alone_sized None s b = refl
alone_sized (Some x) s b = omega (arith, expr_sized x s b, length-append ((piece_of x s).code b) (i.Drop ∷ []))

pub optional_sized : (x : Option Expr) (instr : Instr) (s : Scope) (b : ℕ) → length ((optional_piece x instr s).code b) ≡ (optional_piece x instr s).size
optional_sized None instr s b = refl
optional_sized (Some x) instr s b = expr_sized x s b
