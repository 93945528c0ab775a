-- The parts of each kind of expression.
use Rattle.std.proofs.Common.{◌≡◌, ℕ, List, map, Option, Some, None, refl, sym, ap, ◌∙◌}
use Rattle.c11_num.specs.declared.kind.BinaryOp.{BinaryOp}
use Rattle.c11_ast.specs.declared.place.Spot.{Spot}
use Rattle.c11_ast.specs.declared.expr.Arg.{Arg}
use Rattle.c11_ast.specs.declared.expr.Expr.{Expr, roll-Expr}
use Rattle.c11_ast.specs.declared.expr.Expr.TheVariants as e
use Rattle.c11_ast.specs.declared.expr.CastTo.{CastTo}
use Rattle.c11_ast.specs.declared.expr.Prefix.{Prefix}
use Rattle.c11_ast.specs.declared.expr.Link.{Link}
use Rattle.c11_ast.specs.declared.expr.Target.{Target}
use Rattle.c11_ast.specs.declared.expr.Arg.TheOpen.{Expr-F}
use Rattle.c11_ast.specs.declared.expr.Arg.TheFolds.{map-Expr, fold-roll-Expr}
use Rattle.c11_check.specs.Scopes.{Scope}
use Rattle.c11_meaning.specs.Parts.{Object, Part, Given, Linked, entity_of, line_of, arg_step, link_step, target_step, part_step}
use Rattle.c11_flat.specs.declared.instr.Instr.TheVariants as i
use Rattle.c11_flat.specs.Pieces.{Coding, joined, with_instr, located, place_in, assigning, condition, chained, code_step, part_of, piece_of}
use Rattle.c11_pieces.specs.Places.{assigned}
use Rattle.c11_pieces.specs.Trees.{given_of, linked_of, object_of, links_in, links_of}

rolled : (x : Expr-F Arg Expr Link Target) → part_of (roll-Expr x) ≡ part_step code_step (map-Expr Arg Expr Link Target (Given Coding) (Part Coding) (Linked Coding) (Object Coding) given_of part_of linked_of object_of x)
rolled = fold-roll-Expr (Given Coding) (Part Coding) (Linked Coding) (Object Coding) arg_step (part_step code_step) link_step target_step

-- the code of each kind

layered : (expr : Expr) (x : Expr-F Arg Expr Link Target) (scope : Scope) → expr ≡ roll-Expr x
    → piece_of expr scope ≡ code_step (map-Expr Arg Expr Link Target (Given Coding) (Part Coding) (Linked Coding) (Object Coding) given_of part_of linked_of object_of x) scope
layered expr x scope is = ap (λ (y : Expr). piece_of y scope) is ∙ ap (λ (p : Part Coding). p.value scope) (rolled x)

pub piece_assign : (expr : Expr) (target : Target) (op : Option BinaryOp) (spot : Spot) (value : Expr) (scope : Scope) → expr ≡ e.Assign target op spot value
    → piece_of expr scope ≡ assigning (object_of target) op spot.line (piece_of value) scope
piece_assign expr target op spot value scope is = layered expr (Expr-F.Assign target op spot value) scope (is ∙ sym (e.rolls-Assign target op spot value))

pub piece_cond : (expr test one another : Expr) (scope : Scope) → expr ≡ e.Cond test one another → piece_of expr scope ≡ condition (part_of test) (part_of one) (part_of another) scope
piece_cond expr test one another scope is = layered expr (Expr-F.Cond test one another) scope (is ∙ sym (e.rolls-Cond test one another))

pub piece_chain : (expr first : Expr) (rest : List Link) (scope : Scope) → expr ≡ e.Chain first rest → piece_of expr scope ≡ joined (piece_of first scope) (chained (map linked_of rest) scope)
piece_chain expr first rest scope is = layered expr (Expr-F.Chain first rest) scope (is ∙ sym (e.rolls-Chain first rest))

pub piece_prefix : (expr : Expr) (spot : Spot) (op : Prefix) (inner : Expr) (scope : Scope) → expr ≡ e.Prefix spot op inner → piece_of expr scope ≡ with_instr (piece_of inner scope) (i.Prefix spot.line op)
piece_prefix expr spot op inner scope is = layered expr (Expr-F.Prefix spot op inner) scope (is ∙ sym (e.rolls-Prefix spot op inner))

pub piece_cast : (expr : Expr) (spot : Spot) (to : CastTo) (inner : Expr) (scope : Scope) → expr ≡ e.Cast spot to inner → piece_of expr scope ≡ with_instr (piece_of inner scope) (i.Cast to)
piece_cast expr spot to inner scope is = layered expr (Expr-F.Cast spot to inner) scope (is ∙ sym (e.rolls-Cast spot to inner))

pub assigning_is : (o : Object Coding) (op : Option BinaryOp) (op_line : ℕ) (value : Coding) (scope : Scope)
    → assigning o op op_line value scope ≡ joined (located o scope) (assigned op (entity_of o scope) (line_of o) op_line (place_in o scope) (value scope))
assigning_is o None op_line value scope = refl
assigning_is o (Some op) op_line value scope = refl

pub part_chain : (expr first : Expr) (rest : List Link) → expr ≡ e.Chain first rest → part_of expr ≡ part_step code_step (Expr-F.Chain (part_of first) (map linked_of rest))
part_chain expr first rest is = ap part_of (is ∙ sym (e.rolls-Chain first rest)) ∙ rolled (Expr-F.Chain first rest)

pub chain_links : (expr first : Expr) (rest : List Link) → expr ≡ e.Chain first rest → links_of expr ≡ rest
chain_links expr first rest is = ap links_of is ∙ ap (λ (x : Expr-F Arg Expr Link Target). links_in x) (e.outs-Chain first rest)
