-- Parts of expressions in the grammar, each with what it is to the checks.
use Rattle.std.proofs.Common.{◌≡◌, ◌∙◌, ℕ, zero, suc, List, [], ◌∷◌, map, Option, Some, None, ap, sym}
use Rattle.c11_num.specs.Ranges.{TypedNumber}
use Rattle.c11_num.specs.declared.kind.BinaryOp.{BinaryOp}
use Rattle.c11_ast.specs.declared.place.Spot.{Spot}
use Rattle.c11_ast.specs.declared.place.Word.{Word}
use Rattle.c11_ast.specs.declared.expr.Infix.{Infix}
use Rattle.c11_ast.specs.declared.expr.Target.{Target}
use Rattle.c11_ast.specs.declared.expr.Link.{Link}
use Rattle.c11_ast.specs.declared.expr.Arg.{Arg}
use Rattle.c11_ast.specs.declared.expr.Arg.TheVariants as argument
use Rattle.c11_ast.specs.declared.expr.Expr.{Expr}
use Rattle.c11_ast.specs.declared.expr.Expr.TheVariants as e
use Rattle.c11_ast.specs.declared.expr.Arg.TheOpen.{Arg-F, Expr-F}
use Rattle.c11_ast.specs.declared.expr.Arg.TheFolds.{fold-roll-Expr, fold-roll-Target, fold-roll-Arg, fold-roll-Link}
use Rattle.c11_grammar.specs.declared.token.Mark.TheVariants as m
use Rattle.c11_grammar.specs.Tokens.{Tokens, infix_at, set_of, Sees, Takes, Named, Counted, Quoted, Commas}
use Rattle.c11_grammar.specs.Tokens as tk
use Rattle.c11_grammar.specs.Expressions.{Parts, IsTarget, IsUnary, IsBinary, IsChain, IsCond, IsAssign, IsArg, IsArgs, Links, link, target_with}
use Rattle.c11_grammar.specs.Expressions as g
use Rattle.c11_check.specs.declared.fault.Fault.{Fault}
use Rattle.c11_check.specs.Scopes.{Scope}
use Rattle.c11_check.specs.Expressions as x
use Rattle.c11_check.specs.Expressions.{Part, part_of, part_of_arg, faults_of_link, named_by, arg_part, expr_part, link_part, target_part, used}

-- ---- parts

-- an expression of the grammar whose part in the checks is this
pub record Shown (is : Tokens → Expr → Tokens → Type 0) (ts rest : Tokens) (part : Part) : Type 0 where
  pub expr : Expr
  pub whole : is ts expr rest
  pub shown : part_of expr ≡ part

pub record ShownTarget (is : Tokens → Target → Tokens → Type 0) (ts rest : Tokens) (part : x.Named) : Type 0 where
  pub target : Target
  pub whole : is ts target rest
  pub shown : named_by target ≡ part

pub record ShownArg (is : Tokens → Arg → Tokens → Type 0) (ts rest : Tokens) (part : Part) : Type 0 where
  pub arg : Arg
  pub whole : is ts arg rest
  pub shown : part_of_arg arg ≡ part

pub record ShownArgs (is : Tokens → Arg → Tokens → Type 0) (ts rest : Tokens) (parts : List Part) : Type 0 where
  pub args : List Arg
  pub whole : Commas is ts args rest
  pub shown : map part_of_arg args ≡ parts

-- ---- what a fold is at each kind of part

part_literal : (spot : Spot) (value : TypedNumber) → part_of (e.Literal spot value) ≡ expr_part (Expr-F.Literal spot value)
part_literal spot value = ap part_of (sym (e.rolls-Literal spot value))
    ∙ fold-roll-Expr Part Part (Scope → List Fault) x.Named arg_part expr_part link_part target_part (Expr-F.Literal spot value)

part_read : (target : Target) → part_of (e.Read target) ≡ expr_part (Expr-F.Read (named_by target))
part_read target = ap part_of (sym (e.rolls-Read target))
    ∙ fold-roll-Expr Part Part (Scope → List Fault) x.Named arg_part expr_part link_part target_part (Expr-F.Read target)

part_call : (word : Word) (args : List Arg) → part_of (e.Call word args) ≡ expr_part (Expr-F.Call word (map part_of_arg args))
part_call word args = ap part_of (sym (e.rolls-Call word args))
    ∙ fold-roll-Expr Part Part (Scope → List Fault) x.Named arg_part expr_part link_part target_part (Expr-F.Call word args)

part_chain : (first : Expr) (links : List Link) → part_of (e.Chain first links) ≡ expr_part (Expr-F.Chain (part_of first) (map faults_of_link links))
part_chain first links = ap part_of (sym (e.rolls-Chain first links))
    ∙ fold-roll-Expr Part Part (Scope → List Fault) x.Named arg_part expr_part link_part target_part (Expr-F.Chain first links)

part_assign : (target : Target) (op : Option BinaryOp) (spot : Spot) (value : Expr)
    → part_of (e.Assign target op spot value) ≡ expr_part (Expr-F.Assign (named_by target) op spot (part_of value))
part_assign target op spot value = ap part_of (sym (e.rolls-Assign target op spot value))
    ∙ fold-roll-Expr Part Part (Scope → List Fault) x.Named arg_part expr_part link_part target_part (Expr-F.Assign target op spot value)

arg_address : (spot : Spot) (target : Target) → part_of_arg (argument.Address spot target) ≡ arg_part (Arg-F.Address spot (named_by target))
arg_address spot target = ap part_of_arg (sym (argument.rolls-Address spot target))
    ∙ fold-roll-Arg Part Part (Scope → List Fault) x.Named arg_part expr_part link_part target_part (Arg-F.Address spot target)

arg_text : (spot : Spot) (bytes : List ℕ) → part_of_arg (argument.Text spot bytes) ≡ arg_part (Arg-F.Text spot bytes)
arg_text spot bytes = ap part_of_arg (sym (argument.rolls-Text spot bytes))
    ∙ fold-roll-Arg Part Part (Scope → List Fault) x.Named arg_part expr_part link_part target_part (Arg-F.Text spot bytes)

arg_value : (expr : Expr) → part_of_arg (argument.Value expr) ≡ part_of expr
arg_value expr = ap part_of_arg (sym (argument.rolls-Value expr))
    ∙ fold-roll-Arg Part Part (Scope → List Fault) x.Named arg_part expr_part link_part target_part (Arg-F.Value expr)

link_is : (op : Infix) (spot : Spot) (right : Expr) → faults_of_link (link op spot right) ≡ used (part_of right)
link_is op spot right = fold-roll-Link Part Part (Scope → List Fault) x.Named arg_part expr_part link_part target_part (record { op = op; spot = spot; right = right })

target_plain : (word : Word) → named_by (target_with word None) ≡ target_part (record { word = word; index = None })
target_plain word = fold-roll-Target Part Part (Scope → List Fault) x.Named arg_part expr_part link_part target_part (record { word = word; index = None })

target_indexed : (word : Word) (index : Expr) → named_by (target_with word (Some index)) ≡ target_part (record { word = word; index = Some (part_of index) })
target_indexed word index = fold-roll-Target Part Part (Scope → List Fault) x.Named arg_part expr_part link_part target_part (record { word = word; index = Some index })

-- ---- each kind of part

module _ (d : Parts) where
  pub literal_unary : {ts rest : Tokens} {value : TypedNumber} {spot : Spot} → Counted ts value spot rest
      → Shown (IsUnary d) ts rest (expr_part (Expr-F.Literal spot value))
  literal_unary {value = value} {spot = spot} it = record { expr = e.Literal spot value; whole = g.IsUnary.literal it; shown = part_literal spot value }

  pub plain_target : {ts rest : Tokens} {word : Word} → Named ts word rest → ShownTarget (IsTarget d) ts rest (target_part (record { word = word; index = None }))
  plain_target {word = word} it = record { target = target_with word None; whole = g.IsTarget.plain it; shown = target_plain word }

  pub indexed_target : {ts a b c rest : Tokens} {word : Word} {p q : Spot} {part : Part} → Named ts word a → Takes m.LeftSquare a p b
      → Shown d.assign b c part → Takes m.RightSquare c q rest → ShownTarget (IsTarget d) ts rest (target_part (record { word = word; index = Some part }))
  indexed_target {word = word} it left index right = record {
    target = target_with word (Some index.expr);
    whole = g.IsTarget.indexed it left index.whole right;
    shown = target_indexed word index.expr ∙ ap (λ (p : Part). target_part (record { word = word; index = Some p })) index.shown;
  }

  pub read_unary : {ts rest : Tokens} {part : x.Named} → ShownTarget (IsTarget d) ts rest part → Shown (IsUnary d) ts rest (expr_part (Expr-F.Read part))
  read_unary it = record {
    expr = e.Read it.target;
    whole = g.IsUnary.read it.whole;
    shown = part_read it.target ∙ ap (λ (n : x.Named). expr_part (Expr-F.Read n)) it.shown;
  }

  pub call_unary : {ts a b c rest : Tokens} {word : Word} {p q : Spot} {parts : List Part} → Named ts word a → Takes m.LeftParen a p b
      → ShownArgs d.arg b c parts → Takes m.RightParen c q rest → Shown (IsUnary d) ts rest (expr_part (Expr-F.Call word parts))
  call_unary {word = word} it left args right = record {
    expr = e.Call word args.args;
    whole = g.IsUnary.call it left (g.IsArgs.some args.whole) right;
    shown = part_call word args.args ∙ ap (λ (ps : List Part). expr_part (Expr-F.Call word ps)) args.shown;
  }

  climb : (level : ℕ) {ts rest : Tokens} (expr : Expr) → IsUnary d ts expr rest → IsBinary d level ts expr rest
  climb zero expr whole = whole
  climb (suc level) expr whole = g.IsChain.alone (climb level expr whole)

  -- a unary expression is one of each level
  pub climbed : (level : ℕ) {ts rest : Tokens} {part : Part} → Shown (IsUnary d) ts rest part → Shown (IsBinary d level) ts rest part
  climbed level it = record { expr = it.expr; whole = climb level it.expr it.whole; shown = it.shown }

  pub whole_unary : {ts rest : Tokens} {part : Part} → Shown (IsUnary d) ts rest part → Shown (IsAssign d) ts rest part
  whole_unary it = record { expr = it.expr; whole = g.IsAssign.plain (g.IsCond.alone (climb 10 it.expr it.whole)); shown = it.shown }

  -- an expression with operators of the fourth level, or of the fifth, is a whole one
  pub whole_fourth : {ts rest : Tokens} {part : Part} → Shown (IsBinary d 4) ts rest part → Shown (IsAssign d) ts rest part
  whole_fourth it = record {
    expr = it.expr;
    whole = g.IsAssign.plain (g.IsCond.alone (g.IsChain.alone (g.IsChain.alone (g.IsChain.alone (g.IsChain.alone (g.IsChain.alone (g.IsChain.alone it.whole)))))));
    shown = it.shown;
  }

  pub whole_fifth : {ts rest : Tokens} {part : Part} → Shown (IsBinary d 5) ts rest part → Shown (IsAssign d) ts rest part
  whole_fifth it = record {
    expr = it.expr;
    whole = g.IsAssign.plain (g.IsCond.alone (g.IsChain.alone (g.IsChain.alone (g.IsChain.alone (g.IsChain.alone (g.IsChain.alone it.whole))))));
    shown = it.shown;
  }

  pub third_second : {ts rest : Tokens} {part : Part} → Shown (IsBinary d 2) ts rest part → Shown (IsBinary d 3) ts rest part
  third_second it = record { expr = it.expr; whole = g.IsChain.alone it.whole; shown = it.shown }

  -- two operands and an operator between them
  pub chained : (level : ℕ) {ts a b rest : Tokens} {op : Infix} {spot : Spot} {first right : Part} → Shown (IsBinary d level) ts a first
      → Sees (infix_at (suc level)) a op spot b → Shown (IsBinary d level) b rest right
      → Shown (IsBinary d (suc level)) ts rest (expr_part (Expr-F.Chain first (used right ∷ [])))
  chained level {op = op} {spot = spot} {right = right} one sign other = record {
    expr = e.Chain one.expr (link op spot other.expr ∷ []);
    whole = g.IsChain.chain one.whole sign other.whole g.Links.done;
    shown = part_chain one.expr (link op spot other.expr ∷ [])
        ∙ (ap (λ (f : Scope → List Fault). expr_part (Expr-F.Chain (part_of one.expr) (f ∷ []))) (link_is op spot other.expr)
        ∙ (ap (λ (p : Part). expr_part (Expr-F.Chain (part_of one.expr) (used p ∷ []))) other.shown
        ∙ ap (λ (p : Part). expr_part (Expr-F.Chain p (used right ∷ []))) one.shown));
  }

  pub assigned_whole : {ts a b rest : Tokens} {op : Option BinaryOp} {spot : Spot} {target : x.Named} {value : Part} → ShownTarget (IsTarget d) ts a target
      → Sees set_of a op spot b → Shown d.assign b rest value → Shown (IsAssign d) ts rest (expr_part (Expr-F.Assign target op spot value))
  assigned_whole {op = op} {spot = spot} {value = value} one sign other = record {
    expr = e.Assign one.target op spot other.expr;
    whole = g.IsAssign.assigned one.whole sign other.whole;
    shown = part_assign one.target op spot other.expr
        ∙ (ap (λ (p : Part). expr_part (Expr-F.Assign (named_by one.target) op spot p)) other.shown
        ∙ ap (λ (n : x.Named). expr_part (Expr-F.Assign n op spot value)) one.shown);
  }

  pub address : {ts a rest : Tokens} {p : Spot} {part : x.Named} → Takes m.Ampersand ts p a → ShownTarget (IsTarget d) a rest part
      → ShownArg (IsArg d) ts rest (arg_part (Arg-F.Address p part))
  address {p = p} mark it = record {
    arg = argument.Address p it.target;
    whole = g.IsArg.address mark it.whole;
    shown = arg_address p it.target ∙ ap (λ (n : x.Named). arg_part (Arg-F.Address p n)) it.shown;
  }

  pub text : {ts rest : Tokens} {p : Spot} {bytes : List ℕ} → Quoted ts bytes p rest → ShownArg (IsArg d) ts rest (arg_part (Arg-F.Text p bytes))
  text {p = p} {bytes = bytes} it = record { arg = argument.Text p bytes; whole = g.IsArg.text it; shown = arg_text p bytes }

  pub value : {ts rest : Tokens} {part : Part} → Shown (IsAssign d) ts rest part → ShownArg (IsArg d) ts rest part
  value it = record { arg = argument.Value it.expr; whole = g.IsArg.value it.whole; shown = arg_value it.expr ∙ it.shown }

  -- ---- numbers and names

  pub number_whole : {ts rest : Tokens} {value : TypedNumber} {spot : Spot} → Counted ts value spot rest
      → Shown (IsAssign d) ts rest (expr_part (Expr-F.Literal spot value))
  number_whole it = whole_unary (literal_unary it)

  pub number_argument : {ts rest : Tokens} {value : TypedNumber} {spot : Spot} → Counted ts value spot rest
      → ShownArg (IsArg d) ts rest (expr_part (Expr-F.Literal spot value))
  number_argument it = value (number_whole it)

  pub name_argument : {ts rest : Tokens} {word : Word} → Named ts word rest
      → ShownArg (IsArg d) ts rest (expr_part (Expr-F.Read (target_part (record { word = word; index = None }))))
  name_argument it = value (whole_unary (read_unary (plain_target it)))

  pub address_argument : {ts a rest : Tokens} {p : Spot} {word : Word} → Takes m.Ampersand ts p a → Named a word rest
      → ShownArg (IsArg d) ts rest (arg_part (Arg-F.Address p (target_part (record { word = word; index = None }))))
  address_argument mark it = address mark (plain_target it)

-- ---- arguments

pub one_arg : {is : Tokens → Arg → Tokens → Type 0} {ts rest : Tokens} {part : Part} → ShownArg is ts rest part → ShownArgs is ts rest (part ∷ [])
one_arg it = record { args = it.arg ∷ []; whole = tk.Commas.last it.whole; shown = ap (λ (p : Part). p ∷ []) it.shown }

pub more_args : {is : Tokens → Arg → Tokens → Type 0} {ts a b rest : Tokens} {spot : Spot} {part : Part} {parts : List Part} → ShownArg is ts a part
    → Takes m.Comma a spot b → ShownArgs is b rest parts → ShownArgs is ts rest (part ∷ parts)
more_args {part = part} it comma others = record {
  args = it.arg ∷ others.args;
  whole = tk.Commas.comma it.whole comma others.whole;
  shown = ap (λ (p : Part). p ∷ map part_of_arg others.args) it.shown ∙ ap (λ (ps : List Part). part ∷ ps) others.shown;
}
