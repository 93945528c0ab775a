-- The code of each expression does what the expression means.
use Rattle.std.proofs.Common.{◌≡◌, List, [], ◌∷◌, Option, Some, None, map, refl, ap, ◌∙◌, subst}
use Rattle.c11_num.specs.declared.value.CType.{CType}
use Rattle.c11_ast.specs.declared.place.Word.{Word}
use Rattle.c11_ast.specs.declared.expr.Arg.{Arg}
use Rattle.c11_ast.specs.declared.expr.Expr.{Expr}
use Rattle.c11_ast.specs.declared.expr.Link.{Link}
use Rattle.c11_ast.specs.declared.expr.Target.{Target}
use Rattle.c11_ast.specs.declared.expr.Arg.TheOpen.{Arg-F, Expr-F, Link-F, Target-F}
use Rattle.c11_ast.specs.declared.expr.Arg.TheFolds.{fold-Arg, fold-Expr, fold-Link, fold-Target, map-Arg, map-Expr, map-Link, map-Target, ind-Expr, fold-roll-Arg, fold-roll-Expr, fold-roll-Link, fold-roll-Target}
use Rattle.c11_ast.specs.declared.expr.Arg.{roll-Arg}
use Rattle.c11_ast.specs.declared.expr.Expr.{roll-Expr}
use Rattle.c11_ast.specs.declared.expr.Link.{roll-Link}
use Rattle.c11_ast.specs.declared.expr.Target.{roll-Target}
use Rattle.c11_check.specs.Scopes.{Scope, denoted}
use Rattle.c11_check.specs.Types.{call_type, first_type, links_type, or_int, infix_type, prefix_type, branches_type, entity_type}
use Rattle.c11_meaning.specs.Parts.{Object, Part, Given, Linked, arg_step, link_step, target_step, part_step, type_of_object, type_of_given, type_of_link}
use Rattle.c11_meaning.specs.Expressions.{Calls, Valuing}
use Rattle.c11_meaning.specs.Evaluation.{value_step}
use Rattle.c11_meaning.specs.Evaluation as means
use Rattle.c11_flat.specs.Pieces.{Coding, code_step}
use Rattle.c11_flat.specs.Pieces as pieces
use Rattle.c11_flat.specs.Code.{Whole}
use Rattle.c11_flat.specs.Flat.{Caller}
use Rattle.c11_flat.proofs.Parts.{ObjectDoes, named, indexed, none, some, PartDoes, GivenDoes, address, text, value, LinkDoes, linked, AllGiven, AllLinks, nil, cons}
use Rattle.c11_flat.proofs.Objects.{reading_does, assigning_does, stepping_does, same_entity_of}
use Rattle.c11_flat.proofs.Operators.{prefix_does, cast_does, literal_does, condition_does, chain_does}
use Rattle.c11_flat.proofs.Library.{CallsDo, call_does}

-- what is made of each part, by a step on expressions
module _ (V : Type 0) (step : Expr-F (Given V) (Part V) (Linked V) (Object V) → V) where
  abbrev pub of_arg : Arg → Given V
  of_arg = fold-Arg (Given V) (Part V) (Linked V) (Object V) arg_step (part_step step) link_step target_step

  abbrev pub of_expr : Expr → Part V
  of_expr = fold-Expr (Given V) (Part V) (Linked V) (Object V) arg_step (part_step step) link_step target_step

  abbrev pub of_link : Link → Linked V
  of_link = fold-Link (Given V) (Part V) (Linked V) (Object V) arg_step (part_step step) link_step target_step

  abbrev pub of_target : Target → Object V
  of_target = fold-Target (Given V) (Part V) (Linked V) (Object V) arg_step (part_step step) link_step target_step

module _ (code : Whole) (callers : List Caller) (answers : Option CType) (calls : Calls) (called : CallsDo code callers answers calls) where
  abbrev IsArg : Arg → Type 0
  IsArg x = GivenDoes code callers answers calls (of_arg Coding code_step x) (of_arg Valuing value_step x)

  abbrev IsExpr : Expr → Type 0
  IsExpr x = PartDoes code callers answers calls (of_expr Coding code_step x) (of_expr Valuing value_step x)

  abbrev IsLink : Link → Type 0
  IsLink x = LinkDoes code callers answers calls (of_link Coding code_step x) (of_link Valuing value_step x)

  abbrev IsTarget : Target → Type 0
  IsTarget x = ObjectDoes code callers answers calls (of_target Coding code_step x) (of_target Valuing value_step x)

  abbrev AnArg : Type 0
  AnArg = (x : Arg) × IsArg x

  abbrev AnExpr : Type 0
  AnExpr = (x : Expr) × IsExpr x

  abbrev ALink : Type 0
  ALink = (x : Link) × IsLink x

  abbrev ATarget : Type 0
  ATarget = (x : Target) × IsTarget x

  -- ---- types

  object_typed : (o : Object Coding) (w : Object Valuing) (scope : Scope) → ObjectDoes code callers answers calls o w → type_of_object o scope ≡ type_of_object w scope
  object_typed o w scope d = ap (λ e. Some (entity_type e)) (same_entity_of code callers answers calls o w scope d)

  given_typed : (g : Given Coding) (h : Given Valuing) (scope : Scope) → GivenDoes code callers answers calls g h → type_of_given g scope ≡ type_of_given h scope
  given_typed _ _ scope (address {o = o} {w = w} d) = object_typed o w scope d
  given_typed _ _ scope (text bytes) = refl
  given_typed _ _ scope (value d) = d.typed scope

  first_typed : (gs : List (Given Coding)) (hs : List (Given Valuing)) (scope : Scope) → AllGiven code callers answers calls gs hs → first_type (map type_of_given gs) scope ≡ first_type (map type_of_given hs) scope
  first_typed _ _ scope nil = refl
  first_typed _ _ scope (cons {g = g} {h = h} d ds) = ap or_int (given_typed g h scope d)

  links_typed : (ls : List (Linked Coding)) (ms : List (Linked Valuing)) (left : CType) (scope : Scope) → AllLinks code callers answers calls ls ms → links_type left (map type_of_link ls) scope ≡ links_type left (map type_of_link ms) scope
  links_typed _ _ left scope nil = refl
  links_typed _ _ left scope (cons {gs = ls} {hs = ms} (linked op line {p = p} {q = q} d) ds) =
      ap (λ (t : Option CType). links_type (infix_type op left (or_int t)) (map type_of_link ls) scope) (d.typed scope) ∙ links_typed ls ms (infix_type op left (or_int (q.typed scope))) scope ds

  -- ---- lists of parts

  all_args : (xs : List AnArg) → AllGiven code callers answers calls (map (of_arg Coding code_step) (map (λ u. u.0) xs)) (map (of_arg Valuing value_step) (map (λ u. u.0) xs))
  all_args [] = nil
  all_args (x ∷ xs) = cons x.1 (all_args xs)

  all_links : (xs : List ALink) → AllLinks code callers answers calls (map (of_link Coding code_step) (map (λ u. u.0) xs)) (map (of_link Valuing value_step) (map (λ u. u.0) xs))
  all_links [] = nil
  all_links (x ∷ xs) = cons x.1 (all_links xs)

  -- ---- one layer of each

  abbrev in_code : Expr-F Arg Expr Link Target → Part Coding
  in_code d = part_step code_step (map-Expr Arg Expr Link Target (Given Coding) (Part Coding) (Linked Coding) (Object Coding) (of_arg Coding code_step) (of_expr Coding code_step) (of_link Coding code_step) (of_target Coding code_step) d)

  abbrev in_meaning : Expr-F Arg Expr Link Target → Part Valuing
  in_meaning d = part_step value_step (map-Expr Arg Expr Link Target (Given Valuing) (Part Valuing) (Linked Valuing) (Object Valuing) (of_arg Valuing value_step) (of_expr Valuing value_step) (of_link Valuing value_step) (of_target Valuing value_step) d)

  abbrev bare : Expr-F AnArg AnExpr ALink ATarget → Expr-F Arg Expr Link Target
  bare y = map-Expr AnArg AnExpr ALink ATarget Arg Expr Link Target (λ u. u.0) (λ u. u.0) (λ u. u.0) (λ u. u.0) y

  layer : (y : Expr-F AnArg AnExpr ALink ATarget) → PartDoes code callers answers calls (in_code (bare y)) (in_meaning (bare y))
  layer (Expr-F.Assign target op op_spot x) = record { typed = λ scope. object_typed _ _ scope target.1; object = none; value = assigning_does code callers answers calls _ _ op op_spot.line _ _ target.1 x.1.value }
  layer (Expr-F.Cond t a b) = record {
    typed = λ scope. ap (λ (c : Option CType). branches_type c ((of_expr Coding code_step b.0).typed scope)) (a.1.typed scope) ∙ ap (λ (c : Option CType). branches_type ((of_expr Valuing value_step a.0).typed scope) c) (b.1.typed scope);
    object = none;
    value = condition_does code callers answers calls _ _ _ _ _ _ t.1 a.1 b.1;
  }
  layer (Expr-F.Chain first rest) = record {
    typed = λ scope. ap (λ (c : Option CType). Some (links_type (or_int c) (map type_of_link (map (of_link Coding code_step) (map (λ u. u.0) rest))) scope)) (first.1.typed scope)
        ∙ ap (λ (c : CType). Some c) (links_typed _ _ (or_int ((of_expr Valuing value_step first.0).typed scope)) scope (all_links rest));
    object = none;
    value = chain_does code callers answers calls _ _ _ _ first.1 (all_links rest);
  }
  layer (Expr-F.Prefix spot op inner) = record { typed = λ scope. ap (λ (c : Option CType). Some (prefix_type op (or_int c))) (inner.1.typed scope); object = none; value = prefix_does code callers answers calls spot.line op _ _ inner.1.value }
  layer (Expr-F.Step spot op_spot target up before) = record { typed = λ scope. object_typed _ _ scope target.1; object = none; value = stepping_does code callers answers calls _ _ op_spot.line up before target.1 }
  layer (Expr-F.Cast spot to inner) = record { typed = λ scope. refl; object = none; value = cast_does code callers answers calls to _ _ inner.1.value }
  layer (Expr-F.Call word args) = record {
    typed = λ scope. ap (λ (c : CType). call_type (denoted scope word.name) c) (first_typed _ _ scope (all_args args));
    object = none;
    value = call_does code callers answers calls called (λ scope. denoted scope word.name) word.spot.line _ _ (all_args args);
  }
  layer (Expr-F.Literal spot v) = record { typed = λ scope. refl; object = none; value = literal_does code callers answers calls v }
  layer (Expr-F.Read target) = record { typed = λ scope. object_typed _ _ scope target.1; object = some target.1; value = reading_does code callers answers calls _ _ target.1 }
  layer (Expr-F.Paren spot inner) = record { typed = λ scope. inner.1.typed scope; object = none; value = inner.1.value }

  rolled_expr : (d : Expr-F Arg Expr Link Target) → PartDoes code callers answers calls (in_code d) (in_meaning d) → IsExpr (roll-Expr d)
  rolled_expr d h = rw (
    fold-roll-Expr (Given Coding) (Part Coding) (Linked Coding) (Object Coding) arg_step (part_step code_step) link_step target_step d,
    fold-roll-Expr (Given Valuing) (Part Valuing) (Linked Valuing) (Object Valuing) arg_step (part_step value_step) link_step target_step d,
  ) h

  abbrev arg_in_code : Arg-F Arg Expr Link Target → Given Coding
  arg_in_code d = arg_step (map-Arg Arg Expr Link Target (Given Coding) (Part Coding) (Linked Coding) (Object Coding) (of_arg Coding code_step) (of_expr Coding code_step) (of_link Coding code_step) (of_target Coding code_step) d)

  abbrev arg_in_meaning : Arg-F Arg Expr Link Target → Given Valuing
  arg_in_meaning d = arg_step (map-Arg Arg Expr Link Target (Given Valuing) (Part Valuing) (Linked Valuing) (Object Valuing) (of_arg Valuing value_step) (of_expr Valuing value_step) (of_link Valuing value_step) (of_target Valuing value_step) d)

  rolled_arg : (d : Arg-F Arg Expr Link Target) → GivenDoes code callers answers calls (arg_in_code d) (arg_in_meaning d) → IsArg (roll-Arg d)
  rolled_arg d h = rw (
    fold-roll-Arg (Given Coding) (Part Coding) (Linked Coding) (Object Coding) arg_step (part_step code_step) link_step target_step d,
    fold-roll-Arg (Given Valuing) (Part Valuing) (Linked Valuing) (Object Valuing) arg_step (part_step value_step) link_step target_step d,
  ) h

  arg_layer : (y : Arg-F AnArg AnExpr ALink ATarget) → GivenDoes code callers answers calls (arg_in_code (map-Arg AnArg AnExpr ALink ATarget Arg Expr Link Target (λ u. u.0) (λ u. u.0) (λ u. u.0) (λ u. u.0) y)) (arg_in_meaning (map-Arg AnArg AnExpr ALink ATarget Arg Expr Link Target (λ u. u.0) (λ u. u.0) (λ u. u.0) (λ u. u.0) y))
  arg_layer (Arg-F.Address spot target) = address target.1
  arg_layer (Arg-F.Text spot bytes) = text bytes
  arg_layer (Arg-F.Value x) = value x.1

  abbrev link_in_code : Link-F Arg Expr Link Target → Linked Coding
  link_in_code d = link_step (map-Link Arg Expr Link Target (Given Coding) (Part Coding) (Linked Coding) (Object Coding) (of_arg Coding code_step) (of_expr Coding code_step) (of_link Coding code_step) (of_target Coding code_step) d)

  abbrev link_in_meaning : Link-F Arg Expr Link Target → Linked Valuing
  link_in_meaning d = link_step (map-Link Arg Expr Link Target (Given Valuing) (Part Valuing) (Linked Valuing) (Object Valuing) (of_arg Valuing value_step) (of_expr Valuing value_step) (of_link Valuing value_step) (of_target Valuing value_step) d)

  rolled_link : (d : Link-F Arg Expr Link Target) → LinkDoes code callers answers calls (link_in_code d) (link_in_meaning d) → IsLink (roll-Link d)
  rolled_link d h = rw (
    fold-roll-Link (Given Coding) (Part Coding) (Linked Coding) (Object Coding) arg_step (part_step code_step) link_step target_step d,
    fold-roll-Link (Given Valuing) (Part Valuing) (Linked Valuing) (Object Valuing) arg_step (part_step value_step) link_step target_step d,
  ) h

  link_layer : (y : Link-F AnArg AnExpr ALink ATarget) → LinkDoes code callers answers calls (link_in_code (map-Link AnArg AnExpr ALink ATarget Arg Expr Link Target (λ u. u.0) (λ u. u.0) (λ u. u.0) (λ u. u.0) y)) (link_in_meaning (map-Link AnArg AnExpr ALink ATarget Arg Expr Link Target (λ u. u.0) (λ u. u.0) (λ u. u.0) (λ u. u.0) y))
  link_layer y = linked y.op y.spot.line y.right.1

  abbrev target_in_code : Target-F Arg Expr Link Target → Object Coding
  target_in_code d = target_step (map-Target Arg Expr Link Target (Given Coding) (Part Coding) (Linked Coding) (Object Coding) (of_arg Coding code_step) (of_expr Coding code_step) (of_link Coding code_step) (of_target Coding code_step) d)

  abbrev target_in_meaning : Target-F Arg Expr Link Target → Object Valuing
  target_in_meaning d = target_step (map-Target Arg Expr Link Target (Given Valuing) (Part Valuing) (Linked Valuing) (Object Valuing) (of_arg Valuing value_step) (of_expr Valuing value_step) (of_link Valuing value_step) (of_target Valuing value_step) d)

  rolled_target : (d : Target-F Arg Expr Link Target) → ObjectDoes code callers answers calls (target_in_code d) (target_in_meaning d) → IsTarget (roll-Target d)
  rolled_target d h = rw (
    fold-roll-Target (Given Coding) (Part Coding) (Linked Coding) (Object Coding) arg_step (part_step code_step) link_step target_step d,
    fold-roll-Target (Given Valuing) (Part Valuing) (Linked Valuing) (Object Valuing) arg_step (part_step value_step) link_step target_step d,
  ) h

  abbrev bare_target : Target-F AnArg AnExpr ALink ATarget → Target-F Arg Expr Link Target
  bare_target y = map-Target AnArg AnExpr ALink ATarget Arg Expr Link Target (λ u. u.0) (λ u. u.0) (λ u. u.0) (λ u. u.0) y

  by_index : (word : Word) (x : Option AnExpr) → ObjectDoes code callers answers calls (target_in_code (bare_target (record { word = word; index = x }))) (target_in_meaning (bare_target (record { word = word; index = x })))
  by_index word None = named word
  by_index word (Some x) = indexed word x.1.value

  target_layer : (y : Target-F AnArg AnExpr ALink ATarget) → ObjectDoes code callers answers calls (target_in_code (bare_target y)) (target_in_meaning (bare_target y))
  target_layer y = by_index y.word y.index

  pub expr_does : (x : Expr) → PartDoes code callers answers calls (pieces.part_of x) (means.part_of x)
  expr_does = ind-Expr IsArg IsExpr IsLink IsTarget
      (λ x y is. rolled_arg x (subst (λ (z : Arg-F Arg Expr Link Target). GivenDoes code callers answers calls (arg_in_code z) (arg_in_meaning z)) is (arg_layer y)))
      (λ x y is. rolled_expr x (subst (λ (z : Expr-F Arg Expr Link Target). PartDoes code callers answers calls (in_code z) (in_meaning z)) is (layer y)))
      (λ x y is. rolled_link x (subst (λ (z : Link-F Arg Expr Link Target). LinkDoes code callers answers calls (link_in_code z) (link_in_meaning z)) is (link_layer y)))
      (λ x y is. rolled_target x (subst (λ (z : Target-F Arg Expr Link Target). ObjectDoes code callers answers calls (target_in_code z) (target_in_meaning z)) is (target_layer y)))
