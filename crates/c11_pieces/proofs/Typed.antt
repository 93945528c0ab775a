-- The type of an expression, as the code has it, is the one of the checks.
use Rattle.std.proofs.Common.{◌≡◌, List, [], ◌∷◌, Some, map, refl, ap, subst}
use Rattle.c11_ast.specs.declared.expr.Arg.{Arg, roll-Arg}
use Rattle.c11_ast.specs.declared.expr.Expr.{Expr, roll-Expr}
use Rattle.c11_ast.specs.declared.expr.Link.{Link, roll-Link}
use Rattle.c11_ast.specs.declared.expr.Target.{Target, roll-Target}
use Rattle.c11_ast.specs.declared.expr.Arg.TheOpen.{Arg-F, Expr-F, Link-F, Target-F}
use Rattle.c11_ast.specs.declared.expr.Arg.TheFolds.{fold-Arg, fold-Expr, fold-Link, fold-Target, map-Arg, map-Expr, map-Link, ind-Expr, fold-roll-Arg, fold-roll-Expr, fold-roll-Link, fold-roll-Target}
use Rattle.c11_check.specs.Scopes.{Scope, denoted}
use Rattle.c11_check.specs.Types.{Typed, TypedLink, branches_type, prefix_type, or_int, links_type, call_type, first_type}
use Rattle.c11_check.specs.Types as types
use Rattle.c11_meaning.specs.Parts.{Object, Part, Given, Linked, arg_step, link_step, target_step, part_step, type_of_given, type_of_object, type_of_link}
use Rattle.c11_flat.specs.Pieces.{Coding, code_step, part_of}
use Rattle.c11_pieces.specs.Trees.{given_of, linked_of, object_of}

abbrev arg_type : Arg → Typed
arg_type = fold-Arg Typed Typed TypedLink Typed types.arg_step types.expr_step types.link_step types.target_step

abbrev expr_type : Expr → Typed
expr_type = fold-Expr Typed Typed TypedLink Typed types.arg_step types.expr_step types.link_step types.target_step

abbrev link_type : Link → TypedLink
link_type = fold-Link Typed Typed TypedLink Typed types.arg_step types.expr_step types.link_step types.target_step

abbrev target_type : Target → Typed
target_type = fold-Target Typed Typed TypedLink Typed types.arg_step types.expr_step types.link_step types.target_step

abbrev IsArg : Arg → Type 0
IsArg x = type_of_given (given_of x) ≡ arg_type x

abbrev IsExpr : Expr → Type 0
IsExpr x = (part_of x).typed ≡ expr_type x

abbrev IsLink : Link → Type 0
IsLink x = type_of_link (linked_of x) ≡ link_type x

abbrev IsTarget : Target → Type 0
IsTarget x = type_of_object (object_of x) ≡ target_type x

abbrev AnArg : Type 0
AnArg = (x : Arg) × IsArg x

abbrev AnExpr : Type 0
AnExpr = (x : Expr) × IsExpr x

abbrev ALink : Type 0
ALink = (x : Link) × IsLink x

abbrev ATarget : Type 0
ATarget = (x : Target) × IsTarget x

-- ---- lists of parts

all_args : (xs : List AnArg) → map type_of_given (map given_of (map (λ u. u.0) xs)) ≡ map arg_type (map (λ u. u.0) xs)
all_args [] = refl
all_args (x ∷ xs) = λ i. x.1 i ∷ all_args xs i

all_links : (xs : List ALink) → map type_of_link (map linked_of (map (λ u. u.0) xs)) ≡ map link_type (map (λ u. u.0) xs)
all_links [] = refl
all_links (x ∷ xs) = λ i. x.1 i ∷ all_links xs i

-- ---- one layer of each

abbrev in_code : Expr-F Arg Expr Link Target → Typed
in_code d = (part_step code_step (map-Expr Arg Expr Link Target (Given Coding) (Part Coding) (Linked Coding) (Object Coding) given_of part_of linked_of object_of d)).typed

abbrev in_checks : Expr-F Arg Expr Link Target → Typed
in_checks d = types.expr_step (map-Expr Arg Expr Link Target Typed Typed TypedLink Typed arg_type expr_type link_type target_type d)

abbrev bare : Expr-F AnArg AnExpr ALink ATarget → Expr-F Arg Expr Link Target
bare y = map-Expr AnArg AnExpr ALink ATarget Arg Expr Link Target (λ u. u.0) (λ u. u.0) (λ u. u.0) (λ u. u.0) y

layer : (y : Expr-F AnArg AnExpr ALink ATarget) → in_code (bare y) ≡ in_checks (bare y)
layer (Expr-F.Assign target op op_spot x) = target.1
layer (Expr-F.Cond t a b) = λ i scope. branches_type (a.1 i scope) (b.1 i scope)
layer (Expr-F.Chain first rest) = λ i scope. Some (links_type (or_int (first.1 i scope)) (all_links rest i) scope)
layer (Expr-F.Prefix spot op inner) = λ i scope. Some (prefix_type op (or_int (inner.1 i scope)))
layer (Expr-F.Step spot op_spot target up before) = target.1
layer (Expr-F.Cast spot to inner) = refl
layer (Expr-F.Call word args) = λ i scope. call_type (denoted scope word.name) (first_type (all_args args i) scope)
layer (Expr-F.Literal spot v) = refl
layer (Expr-F.Read target) = target.1
layer (Expr-F.Paren spot inner) = inner.1

rolled_expr : (d : Expr-F Arg Expr Link Target) → in_code d ≡ in_checks d → IsExpr (roll-Expr d)
rolled_expr d h = rw (
  fold-roll-Expr (Given Coding) (Part Coding) (Linked Coding) (Object Coding) arg_step (part_step code_step) link_step target_step d,
  fold-roll-Expr Typed Typed TypedLink Typed types.arg_step types.expr_step types.link_step types.target_step d,
) h

abbrev arg_in_code : Arg-F Arg Expr Link Target → Typed
arg_in_code d = type_of_given (arg_step (map-Arg Arg Expr Link Target (Given Coding) (Part Coding) (Linked Coding) (Object Coding) given_of part_of linked_of object_of d))

abbrev arg_in_checks : Arg-F Arg Expr Link Target → Typed
arg_in_checks d = types.arg_step (map-Arg Arg Expr Link Target Typed Typed TypedLink Typed arg_type expr_type link_type target_type d)

abbrev bare_arg : Arg-F AnArg AnExpr ALink ATarget → Arg-F Arg Expr Link Target
bare_arg y = map-Arg AnArg AnExpr ALink ATarget Arg Expr Link Target (λ u. u.0) (λ u. u.0) (λ u. u.0) (λ u. u.0) y

arg_layer : (y : Arg-F AnArg AnExpr ALink ATarget) → arg_in_code (bare_arg y) ≡ arg_in_checks (bare_arg y)
arg_layer (Arg-F.Address spot target) = target.1
arg_layer (Arg-F.Text spot bytes) = refl
arg_layer (Arg-F.Value x) = x.1

rolled_arg : (d : Arg-F Arg Expr Link Target) → arg_in_code d ≡ arg_in_checks d → IsArg (roll-Arg d)
rolled_arg d h = rw (
  fold-roll-Arg (Given Coding) (Part Coding) (Linked Coding) (Object Coding) arg_step (part_step code_step) link_step target_step d,
  fold-roll-Arg Typed Typed TypedLink Typed types.arg_step types.expr_step types.link_step types.target_step d,
) h

abbrev link_in_code : Link-F Arg Expr Link Target → TypedLink
link_in_code d = type_of_link (link_step (map-Link Arg Expr Link Target (Given Coding) (Part Coding) (Linked Coding) (Object Coding) given_of part_of linked_of object_of d))

abbrev link_in_checks : Link-F Arg Expr Link Target → TypedLink
link_in_checks d = types.link_step (map-Link Arg Expr Link Target Typed Typed TypedLink Typed arg_type expr_type link_type target_type d)

abbrev bare_link : Link-F AnArg AnExpr ALink ATarget → Link-F Arg Expr Link Target
bare_link y = map-Link AnArg AnExpr ALink ATarget Arg Expr Link Target (λ u. u.0) (λ u. u.0) (λ u. u.0) (λ u. u.0) y

link_layer : (y : Link-F AnArg AnExpr ALink ATarget) → link_in_code (bare_link y) ≡ link_in_checks (bare_link y)
link_layer y = λ i. record { op = y.op; right = y.right.1 i }

rolled_link : (d : Link-F Arg Expr Link Target) → link_in_code d ≡ link_in_checks d → IsLink (roll-Link d)
rolled_link d h = rw (
  fold-roll-Link (Given Coding) (Part Coding) (Linked Coding) (Object Coding) arg_step (part_step code_step) link_step target_step d,
  fold-roll-Link Typed Typed TypedLink Typed types.arg_step types.expr_step types.link_step types.target_step d,
) h

rolled_target : (d : Target-F Arg Expr Link Target) → IsTarget (roll-Target d)
rolled_target d = rw (
  fold-roll-Target (Given Coding) (Part Coding) (Linked Coding) (Object Coding) arg_step (part_step code_step) link_step target_step d,
  fold-roll-Target Typed Typed TypedLink Typed types.arg_step types.expr_step types.link_step types.target_step d,
) refl

part_typed : (x : Expr) → (part_of x).typed ≡ expr_type x
part_typed = ind-Expr IsArg IsExpr IsLink IsTarget
    (λ x y is. rolled_arg x (subst (λ (z : Arg-F Arg Expr Link Target). arg_in_code z ≡ arg_in_checks z) is (arg_layer y)))
    (λ x y is. rolled_expr x (subst (λ (z : Expr-F Arg Expr Link Target). in_code z ≡ in_checks z) is (layer y)))
    (λ x y is. rolled_link x (subst (λ (z : Link-F Arg Expr Link Target). link_in_code z ≡ link_in_checks z) is (link_layer y)))
    (λ x y is. rolled_target x)

pub typed_is : (x : Expr) (scope : Scope) → (part_of x).typed scope ≡ types.type_of scope x
typed_is x scope = ap (λ (t : Typed). t scope) (part_typed x)
