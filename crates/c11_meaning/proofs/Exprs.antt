-- Expressions in a program without a fault ask for what is legal: along the tree.
use Rattle.std.proofs.Common.{◌≡◌, Bool, List, [], ◌∷◌, ◌++◌, map, Option, Some, None, refl, subst}
use Rattle.c11_num.specs.declared.value.CType.{CType}
use Rattle.c11_ast.specs.declared.place.Word.{Word}
use Rattle.c11_ast.specs.declared.expr.CastTo.{CastTo}
use Rattle.c11_ast.specs.declared.expr.CastTo.TheVariants as to
use Rattle.c11_ast.specs.declared.expr.Expr.{Expr, roll-Expr}
use Rattle.c11_ast.specs.declared.expr.Arg.{Arg, roll-Arg}
use Rattle.c11_ast.specs.declared.expr.Link.{Link, roll-Link}
use Rattle.c11_ast.specs.declared.expr.Target.{Target, roll-Target}
use Rattle.c11_ast.specs.declared.expr.Arg.TheOpen.{Arg-F, Expr-F, Link-F, Target-F}
use Rattle.c11_ast.specs.declared.expr.Arg.TheFolds.{fold-Arg, fold-Link, fold-Target, map-Arg, map-Expr, map-Link, map-Target, ind-Expr, fold-roll-Arg, fold-roll-Expr, fold-roll-Link, fold-roll-Target}
use Rattle.c11_check.specs.declared.fault.Fault.{Fault}
use Rattle.c11_check.specs.Scopes.{Scope}
use Rattle.c11_check.specs.Types.{branches_type}
use Rattle.c11_check.specs.Faults.{unvalued}
use Rattle.c11_check.specs.Expressions.{Named, arg_part, expr_part, link_part, target_part, used, alone, branches}
use Rattle.c11_check.specs.Expressions as check
use Rattle.c11_check.proofs.Lying.{nil_front, nil_back}
use Rattle.c11_meaning.specs.Outcome.{State, Gives, and_then}
use Rattle.c11_meaning.specs.Objects.{is_zero}
use Rattle.c11_meaning.specs.Parts.{Object, Part, Given, Linked, arg_step, link_step, target_step, part_step}
use Rattle.c11_meaning.specs.Expressions.{Calls, Valuing, branch, condition, cast}
use Rattle.c11_meaning.specs.Evaluation.{value_step, part_of}
use Rattle.c11_meaning.specs.Legal.{World}
use Rattle.c11_meaning.proofs.Fine.{Good, Fine, Keeps, fine_bind, fine_if}
use Rattle.c11_meaning.proofs.Named.{CallsFine, Knows, ValueFine, IsNamed, named, indexed, IsFormed, PartFine, GivenFine, LinkFine, linked, AllGiven, AllLinks, reading_fine, assigning_fine, stepping_fine, prefix_fine, chain_fine}
use Rattle.c11_meaning.proofs.Calls.{call_fine}

module _ (w : World) (owners : List Bool) (calls : Calls) (called : CallsFine w calls) where
  clean_used : (part : check.Part) (scope : Scope) → used part scope ≡ [] → part.faults scope ≡ []
  clean_used part scope clean = nil_front (part.faults scope) (part.misread scope) (nil_front (alone part scope) (unvalued (part.voids scope)) clean)

  branch_fine : (ctype : Option CType) (part : check.Part) (q : Part Valuing) (scope : Scope) (st : State) → PartFine w owners calls part q → Knows w owners calls scope → alone part scope ≡ [] → Good w owners st → Fine w (Keeps w owners) (branch ctype q scope calls st)
  branch_fine ctype part q scope st f knows clean good = fine_bind w (f.value scope knows (nil_front (part.faults scope) (part.misread scope) clean) st good) (λ v st good. Fine.gives good)

  condition_fine : (t a b : check.Part) (t' a' b' : Part Valuing) → PartFine w owners calls t t' → PartFine w owners calls a a' → PartFine w owners calls b b' → ValueFine w owners calls (branches t a b) (condition t' a' b')
  condition_fine t a b t' a' b' ft fa fb scope knows clean st good =
      let rest = nil_back (used t scope) (alone a scope ++ alone b scope) clean in let ctype = branches_type (a'.typed scope) (b'.typed scope) in
      fine_bind w (ft.value scope knows (clean_used t scope (nil_front (used t scope) (alone a scope ++ alone b scope) clean)) st good) (λ v st good.
      fine_if w (is_zero v) (branch_fine ctype b b' scope st fb knows (nil_back (alone a scope) (alone b scope) rest) good) (branch_fine ctype a a' scope st fa knows (nil_front (alone a scope) (alone b scope) rest) good))

  cast_clean : (to : CastTo) (part : check.Part) (scope : Scope) → check.cast to part scope ≡ [] → part.faults scope ≡ []
  cast_clean to.Void part scope clean = nil_front (part.faults scope) (part.misread scope) clean
  cast_clean (to.Number ctype) part scope clean = clean_used part scope clean
  cast_clean to.VoidPointer part scope clean = clean_used part scope clean

  cast_fine : (to : CastTo) (part : check.Part) (q : Part Valuing) → PartFine w owners calls part q → ValueFine w owners calls (check.cast to part) (λ scope calls st. and_then (q.value scope calls st) (λ value st. Gives (cast to value) st))
  cast_fine to part q f scope knows clean st good = fine_bind w (f.value scope knows (cast_clean to part scope clean) st good) (λ v st good. Fine.gives good)

  -- ---- along the tree

  abbrev arg_check : Arg → check.Part
  arg_check = fold-Arg check.Part check.Part (Scope → List Fault) Named arg_part expr_part link_part target_part

  abbrev link_check : Link → Scope → List Fault
  link_check = fold-Link check.Part check.Part (Scope → List Fault) Named arg_part expr_part link_part target_part

  abbrev target_check : Target → Named
  target_check = fold-Target check.Part check.Part (Scope → List Fault) Named arg_part expr_part link_part target_part

  abbrev arg_means : Arg → Given Valuing
  arg_means = fold-Arg (Given Valuing) (Part Valuing) (Linked Valuing) (Object Valuing) arg_step (part_step value_step) link_step target_step

  abbrev link_means : Link → Linked Valuing
  link_means = fold-Link (Given Valuing) (Part Valuing) (Linked Valuing) (Object Valuing) arg_step (part_step value_step) link_step target_step

  abbrev target_means : Target → Object Valuing
  target_means = fold-Target (Given Valuing) (Part Valuing) (Linked Valuing) (Object Valuing) arg_step (part_step value_step) link_step target_step

  abbrev IsArg : Arg → Type 0
  IsArg x = GivenFine w owners calls (arg_check x) (arg_means x)

  abbrev IsExpr : Expr → Type 0
  IsExpr x = PartFine w owners calls (check.part_of x) (part_of x)

  abbrev IsLink : Link → Type 0
  IsLink x = LinkFine w owners calls (link_check x) (link_means x)

  abbrev IsTarget : Target → Type 0
  IsTarget x = IsNamed w owners calls (target_check x) (target_means x)

  abbrev AnArg : Type 0
  AnArg = (x : Arg) × IsArg x

  abbrev AnExpr : Type 0
  AnExpr = (x : Expr) × IsExpr x

  abbrev ALink : Type 0
  ALink = (x : Link) × IsLink x

  abbrev ATarget : Type 0
  ATarget = (x : Target) × IsTarget x

  all_args : (xs : List AnArg) → AllGiven w owners calls (map arg_check (map (λ u. u.0) xs)) (map arg_means (map (λ u. u.0) xs))
  all_args [] = AllGiven.nil
  all_args (x ∷ xs) = AllGiven.cons x.1 (all_args xs)

  all_links : (xs : List ALink) → AllLinks w owners calls (map link_check (map (λ u. u.0) xs)) (map link_means (map (λ u. u.0) xs))
  all_links [] = AllLinks.nil
  all_links (x ∷ xs) = AllLinks.cons x.1 (all_links xs)

  abbrev in_check : Expr-F Arg Expr Link Target → check.Part
  in_check d = expr_part (map-Expr Arg Expr Link Target check.Part check.Part (Scope → List Fault) Named arg_check check.part_of link_check target_check d)

  abbrev in_meaning : Expr-F Arg Expr Link Target → Part Valuing
  in_meaning d = part_step value_step (map-Expr Arg Expr Link Target (Given Valuing) (Part Valuing) (Linked Valuing) (Object Valuing) arg_means part_of link_means target_means d)

  abbrev bare : Expr-F AnArg AnExpr ALink ATarget → Expr-F Arg Expr Link Target
  bare y = map-Expr AnArg AnExpr ALink ATarget Arg Expr Link Target (λ u. u.0) (λ u. u.0) (λ u. u.0) (λ u. u.0) y

  layer : (y : Expr-F AnArg AnExpr ALink ATarget) → PartFine w owners calls (in_check (bare y)) (in_meaning (bare y))
  layer (Expr-F.Assign target op op_spot x) = record { form = IsFormed.other (λ scope. (refl, refl)); value = assigning_fine w owners calls _ _ op op_spot.line (check.part_of x.0) (part_of x.0).value target.1 x.1.value }
  layer (Expr-F.Cond t a b) = record { form = IsFormed.other (λ scope. (refl, refl)); value = condition_fine _ _ _ _ _ _ t.1 a.1 b.1 }
  layer (Expr-F.Chain first rest) = record { form = IsFormed.other (λ scope. (refl, refl)); value = chain_fine w owners calls _ _ _ _ first.1 (all_links rest) }
  layer (Expr-F.Prefix spot op inner) = record { form = IsFormed.other (λ scope. (refl, refl)); value = prefix_fine w owners calls op spot.line (check.part_of inner.0) (part_of inner.0).value inner.1.value }
  layer (Expr-F.Step spot op_spot target up before) = record { form = IsFormed.other (λ scope. (refl, refl)); value = stepping_fine w owners calls _ _ op_spot.line up before target.1 }
  layer (Expr-F.Cast spot to inner) = record { form = IsFormed.other (λ scope. (refl, refl)); value = cast_fine to _ _ inner.1 }
  layer (Expr-F.Call word args) = record { form = IsFormed.other (λ scope. (refl, refl)); value = call_fine w owners calls called word _ _ (all_args args) }
  layer (Expr-F.Literal spot v) = record { form = IsFormed.other (λ scope. (refl, refl)); value = λ scope knows clean st good. Fine.gives good }
  layer (Expr-F.Read target) = record { form = IsFormed.read target.1 (λ scope. refl) (λ scope. refl); value = reading_fine w owners calls _ _ target.1 }
  layer (Expr-F.Paren spot inner) = record { form = IsFormed.other (λ scope. (refl, refl)); value = λ scope knows clean st good. inner.1.value scope knows (nil_front _ _ clean) st good }

  rolled_expr : (d : Expr-F Arg Expr Link Target) → PartFine w owners calls (in_check d) (in_meaning d) → IsExpr (roll-Expr d)
  rolled_expr d h = rw (
    fold-roll-Expr check.Part check.Part (Scope → List Fault) Named arg_part expr_part link_part target_part d,
    fold-roll-Expr (Given Valuing) (Part Valuing) (Linked Valuing) (Object Valuing) arg_step (part_step value_step) link_step target_step d,
  ) h

  abbrev arg_in_check : Arg-F Arg Expr Link Target → check.Part
  arg_in_check d = arg_part (map-Arg Arg Expr Link Target check.Part check.Part (Scope → List Fault) Named arg_check check.part_of link_check target_check d)

  abbrev arg_in_meaning : Arg-F Arg Expr Link Target → Given Valuing
  arg_in_meaning d = arg_step (map-Arg Arg Expr Link Target (Given Valuing) (Part Valuing) (Linked Valuing) (Object Valuing) arg_means part_of link_means target_means d)

  rolled_arg : (d : Arg-F Arg Expr Link Target) → GivenFine w owners calls (arg_in_check d) (arg_in_meaning d) → IsArg (roll-Arg d)
  rolled_arg d h = rw (
    fold-roll-Arg check.Part check.Part (Scope → List Fault) Named arg_part expr_part link_part target_part d,
    fold-roll-Arg (Given Valuing) (Part Valuing) (Linked Valuing) (Object Valuing) arg_step (part_step value_step) link_step target_step d,
  ) h

  arg_layer : (y : Arg-F AnArg AnExpr ALink ATarget) → GivenFine w owners calls (arg_in_check (map-Arg AnArg AnExpr ALink ATarget Arg Expr Link Target (λ u. u.0) (λ u. u.0) (λ u. u.0) (λ u. u.0) y)) (arg_in_meaning (map-Arg AnArg AnExpr ALink ATarget Arg Expr Link Target (λ u. u.0) (λ u. u.0) (λ u. u.0) (λ u. u.0) y))
  arg_layer (Arg-F.Address spot target) = GivenFine.address spot target.1
  arg_layer (Arg-F.Text spot bytes) = GivenFine.text spot bytes
  arg_layer (Arg-F.Value x) = GivenFine.of_value x.1

  abbrev link_in_check : Link-F Arg Expr Link Target → Scope → List Fault
  link_in_check d = link_part (map-Link Arg Expr Link Target check.Part check.Part (Scope → List Fault) Named arg_check check.part_of link_check target_check d)

  abbrev link_in_meaning : Link-F Arg Expr Link Target → Linked Valuing
  link_in_meaning d = link_step (map-Link Arg Expr Link Target (Given Valuing) (Part Valuing) (Linked Valuing) (Object Valuing) arg_means part_of link_means target_means d)

  rolled_link : (d : Link-F Arg Expr Link Target) → LinkFine w owners calls (link_in_check d) (link_in_meaning d) → IsLink (roll-Link d)
  rolled_link d h = rw (
    fold-roll-Link check.Part check.Part (Scope → List Fault) Named arg_part expr_part link_part target_part d,
    fold-roll-Link (Given Valuing) (Part Valuing) (Linked Valuing) (Object Valuing) arg_step (part_step value_step) link_step target_step d,
  ) h

  link_layer : (y : Link-F AnArg AnExpr ALink ATarget) → LinkFine w owners calls (link_in_check (map-Link AnArg AnExpr ALink ATarget Arg Expr Link Target (λ u. u.0) (λ u. u.0) (λ u. u.0) (λ u. u.0) y)) (link_in_meaning (map-Link AnArg AnExpr ALink ATarget Arg Expr Link Target (λ u. u.0) (λ u. u.0) (λ u. u.0) (λ u. u.0) y))
  link_layer y = linked y.op y.spot.line y.right.1

  abbrev target_in_check : Target-F Arg Expr Link Target → Named
  target_in_check d = target_part (map-Target Arg Expr Link Target check.Part check.Part (Scope → List Fault) Named arg_check check.part_of link_check target_check d)

  abbrev target_in_meaning : Target-F Arg Expr Link Target → Object Valuing
  target_in_meaning d = target_step (map-Target Arg Expr Link Target (Given Valuing) (Part Valuing) (Linked Valuing) (Object Valuing) arg_means part_of link_means target_means d)

  rolled_target : (d : Target-F Arg Expr Link Target) → IsNamed w owners calls (target_in_check d) (target_in_meaning d) → IsTarget (roll-Target d)
  rolled_target d h = rw (
    fold-roll-Target check.Part check.Part (Scope → List Fault) Named arg_part expr_part link_part target_part d,
    fold-roll-Target (Given Valuing) (Part Valuing) (Linked Valuing) (Object Valuing) arg_step (part_step value_step) link_step target_step d,
  ) h

  abbrev bare_target : Target-F AnArg AnExpr ALink ATarget → Target-F Arg Expr Link Target
  bare_target y = map-Target AnArg AnExpr ALink ATarget Arg Expr Link Target (λ u. u.0) (λ u. u.0) (λ u. u.0) (λ u. u.0) y

  by_index : (word : Word) (x : Option AnExpr) → IsNamed w owners calls (target_in_check (bare_target (record { word = word; index = x }))) (target_in_meaning (bare_target (record { word = word; index = x })))
  by_index word None = named word
  by_index word (Some x) = indexed word (λ scope knows clean st good. x.1.value scope knows (clean_used (check.part_of x.0) scope clean) st good)

  target_layer : (y : Target-F AnArg AnExpr ALink ATarget) → IsNamed w owners calls (target_in_check (bare_target y)) (target_in_meaning (bare_target y))
  target_layer y = by_index y.word y.index

  pub expr_fine : (x : Expr) → PartFine w owners calls (check.part_of x) (part_of x)
  expr_fine = ind-Expr IsArg IsExpr IsLink IsTarget
      (λ x y is. rolled_arg x (subst (λ (z : Arg-F Arg Expr Link Target). GivenFine w owners calls (arg_in_check z) (arg_in_meaning z)) is (arg_layer y)))
      (λ x y is. rolled_expr x (subst (λ (z : Expr-F Arg Expr Link Target). PartFine w owners calls (in_check z) (in_meaning z)) is (layer y)))
      (λ x y is. rolled_link x (subst (λ (z : Link-F Arg Expr Link Target). LinkFine w owners calls (link_in_check z) (link_in_meaning z)) is (link_layer y)))
      (λ x y is. rolled_target x (subst (λ (z : Target-F Arg Expr Link Target). IsNamed w owners calls (target_in_check z) (target_in_meaning z)) is (target_layer y)))
