-- An expression of the grammar that does not go on is read.
use Rattle.std.proofs.Common.{◌≡◌, ◌<◌, ◌≤◌, ◌+◌, ◌∷◌, ◌++◌, ◌∙◌, [], Bool, List, None, Some, ap, arith, false, length, refl, suc, sym, true, zero, ℕ}
use Rattle.c11_ast.specs.declared.expr.Arg.{Arg}
use Rattle.c11_ast.specs.declared.expr.Arg.TheOpen.{Expr-F}
use Rattle.c11_ast.specs.declared.expr.Expr.{Expr, out-Expr}
use Rattle.c11_ast.specs.declared.expr.Expr.TheVariants.{outs-Read}
use Rattle.c11_ast.specs.declared.expr.Link.{Link}
use Rattle.c11_ast.specs.declared.expr.Target.{Target, out-Target}
use Rattle.c11_ast.specs.declared.place.Spot.{Spot}
use Rattle.c11_ast.specs.declared.place.Word.{Word}
use Rattle.c11_grammar.proofs.Integers.{cast_to_complete, no_integer}
use Rattle.c11_grammar.proofs.Shapes.{AllShaped, Shape, all_shaped, assign_shape, binary_shape, no_opening, no_text, opens}
use Rattle.c11_grammar.proofs.Steps.{bind_is, bind_none, closes, commas_complete, commas_first, given_is, given_not, infix_strength, named_is, named_no_literal, named_not, not_seen, not_taken, quoted_is, quoted_not, sees_binds, sees_is, sees_not, sees_one, set_strength, step_strength, takes_binds, takes_is, takes_not}
use Rattle.c11_grammar.specs.Expressions.{IsArg, IsArgs, IsAssign, IsBinary, IsChain, IsCond, IsTarget, IsUnary, Links, Parts, link, parts}
use Rattle.c11_grammar.specs.Laws.{Complete, binds}
use Rattle.c11_grammar.specs.Reading.{Out, Readers, arg_of, args_of, assign_of, assigned_to, binary_of, branches_of, cast_to_of, chain_of, cond_of, index_after, links, named_of, paren_of, readers, step_after, take, target_of, unary_of}
use Rattle.c11_grammar.specs.Tokens.{Named, Sees, Takes, Tokens, counted, exactly, infix_at, prefix_of, set_of, step_of}
use Rattle.c11_grammar.specs.declared.token.Mark.{Mark}
use Rattle.std.proofs.lemmas.List.{append-nil, append_assoc}
use Rattle.c11_grammar.specs.declared.token.Mark.TheVariants as m
use Rattle.c11_ast.specs.declared.expr.Expr.TheVariants as e
use Rattle.c11_grammar.specs.Expressions as g

pub record AllComplete (is : Parts) (read : Readers) : Type 0 where
  pub target : Complete 0 is.target read.target
  pub unary : Complete 1 is.unary read.unary
  pub cond : Complete 12 is.cond read.cond
  pub assign : Complete 13 is.assign read.assign
  pub arg : Complete 13 is.arg read.arg

steps_no_prefix : (mark : Mark) (up : Bool) → step_of mark ≡ Some up → prefix_of mark ≡ None
steps_no_prefix m.Increment up e = refl
steps_no_prefix m.Decrement up e = refl
steps_no_prefix _ up e = cc

-- no cast leads to what head an expression
pub no_cast : (ts : Tokens) → opens ts ≡ true → cast_to_of ts ≡ None
unfolding cast_to_of
no_cast ts opening = given_not _ _ (no_opening m.Void refl ts opening) (bind_none _ (no_integer ts
    (record { no_int = no_opening m.Int refl ts opening; no_long = no_opening m.Long refl ts opening; no_unsigned = no_opening m.Unsigned refl ts opening })))

-- A target is a name, behind which no parenthesis opens, and what `index_after` reads.
data Split (d : Readers) : Tokens → Target → Tokens → Type 0 where
  parted : {ts a rest : Tokens} {word : Word} {target : Target} → Named ts word a → take m.LeftParen a ≡ None → index_after d word a ≡ Some (target, rest) → Split d ts target rest

module _ (is : Parts) (d : Readers) (deeper : AllComplete is d) (shaped : AllShaped is) where
  split : (ts : Tokens) (target : Target) (rest : Tokens) → IsTarget is ts target rest → 0 < binds rest → Split d ts target rest
  unfolding index_after
  split ts target rest (g.IsTarget.plain head) less = parted head (not_taken m.LeftParen rest less) (given_not _ _ (not_taken m.LeftSquare rest less) refl)
  split ts target rest (g.indexed head left index right) less = parted head (takes_not (exactly m.LeftParen) refl left)
      (given_is _ _ (takes_is left) (bind_is _ (deeper.assign _ _ _ index (closes m.RightSquare right (omega arith))) (bind_is _ (takes_is right) refl)))

  split_read : (ts : Tokens) (target : Target) (rest : Tokens) → Split d ts target rest → target_of d ts ≡ Some (target, rest)
  unfolding target_of
  split_read ts target rest (parted head uncalled goes) = bind_is _ (named_is head) goes

  target_complete : Complete 0 (IsTarget is) (target_of d)
  target_complete ts target rest whole less = split_read ts target rest (split ts target rest whole less)

  args_complete : (ts : Tokens) (args : List Arg) (a rest : Tokens) (q : Spot) → IsArgs is.arg ts args a → Takes m.RightParen a q rest → args_of d ts ≡ Some (args, rest)
  unfolding args_of
  args_complete ts args a rest q g.none right = given_is _ _ (takes_is right) refl
  args_complete ts args a rest q (g.some all) right =
      given_not _ _ (commas_first is.arg (λ b. take m.RightParen b ≡ None) (λ b x c h. (shaped.arg b x c h).inside) ts args a all)
      (bind_is _ (commas_complete is.arg d.arg 13 (omega arith) deeper.arg (λ b x c h. (shaped.arg b x c h).shorter) (length ts) [] ts args a all
      (closes m.RightParen right (omega arith)) (takes_not (exactly m.Comma) refl right) (omega arith))
      (bind_is _ (takes_is right) refl))

  named_goes : (ts a : Tokens) (word : Word) (y : Out Expr) → Named ts word a → named_of d word a ≡ y → unary_of d ts ≡ y
  unfolding unary_of
  named_goes ts a word y head goes = given_not _ _ (named_not prefix_of head) (given_not _ _ (named_not step_of head)
      (given_not _ _ (named_not (exactly m.LeftParen) head) (given_not _ _ (named_no_literal head) (bind_is _ (named_is head) goes))))

  read_complete : (ts : Tokens) (target : Target) (rest : Tokens) → Split d ts target rest → 1 < binds rest → unary_of d ts ≡ Some (e.Read target, rest)
  unfolding named_of step_after
  read_complete ts target rest (parted {a = a} {word = w} head uncalled goes) less = named_goes ts a w _ head (given_not _ _ uncalled (bind_is _ goes
      (given_not _ _ (not_seen step_of 1 (λ mark up e. omega (arith, step_strength mark up e)) rest less) refl)))

  stepped_complete : (ts : Tokens) (target : Target) (a rest : Tokens) (up : Bool) (p : Spot) → Split d ts target a → Sees step_of a up p rest
      → unary_of d ts ≡ Some (e.Step (out-Target target).word.spot p target up false, rest)
  unfolding named_of step_after
  stepped_complete ts target a rest up p (parted {a = b} {word = w} head uncalled goes) step = named_goes ts b w _ head (given_not _ _ uncalled (bind_is _ goes (given_is _ _ (sees_is step) refl)))

  paren_goes : (ts a : Tokens) (p : Spot) (y : Out Expr) → Takes m.LeftParen ts p a → paren_of d p a ≡ y → unary_of d ts ≡ y
  unfolding unary_of
  paren_goes ts a p y left goes = given_not _ _ (takes_not prefix_of refl left) (given_not _ _ (takes_not step_of refl left) (given_is _ _ (takes_is left) goes))

  unary_complete : Complete 1 (IsUnary is) (unary_of d)
  unfolding unary_of paren_of named_of
  unary_complete ts expr rest (g.prefixed op inner) less = given_is _ _ (sees_is op) (bind_is _ (deeper.unary _ _ _ inner less) refl)
  unary_complete ts expr rest (g.stepped step whole) less = given_not _ _ (sees_not prefix_of steps_no_prefix step) (given_is _ _ (sees_is step) (bind_is _ (deeper.target _ _ _ whole (omega arith)) refl))
  unary_complete ts expr rest (g.cast {a = a} {b = b} {c = c} {p = p} {q = q} {to = t} left type right inner) less = paren_goes ts a p _ left
      (given_is _ _ (cast_to_complete a t b c q type right) (bind_is _ (takes_is right) (bind_is _ (deeper.unary _ _ _ inner less) refl)))
  unary_complete ts expr rest (g.read {target = t} whole) less = read_complete ts t rest (split ts t rest whole (omega arith)) less
  unary_complete ts expr rest (g.stepped_after {a = a} {up = up} {spot = p} {target = t} whole step) less =
      stepped_complete ts t a rest up p (split ts t a whole (omega (arith, sees_binds 1 step_strength step))) step
  unary_complete ts expr rest (g.call {a = a} {b = b} {c = c} {word = w} {q = q} {args = args} head left given_args right) less =
      named_goes ts a w _ head (given_is _ _ (takes_is left) (bind_is _ (args_complete b args c rest q given_args right) refl))
  unary_complete ts expr rest (g.literal counted) less = given_not _ _ refl (given_not _ _ refl (given_not _ _ refl (given_is _ _ refl refl)))
  unary_complete ts expr rest (g.paren {a = a} {p = p} left inner right) less = paren_goes ts a p _ left (given_not _ _ (no_cast a (shaped.assign _ _ _ inner).opens)
      (bind_is _ (deeper.assign _ _ _ inner (closes m.RightParen right (omega arith))) (bind_is _ (takes_is right) refl)))

module _ (is : Tokens → Expr → Tokens → Type 0) (read : Tokens → Out Expr) (level : ℕ) (operand : Complete level is read)
    (shaped : (ts : Tokens) (part : Expr) (rest : Tokens) → is ts part rest → Shape ts rest) where
  links_follow : (ts : Tokens) (ls : List Link) (rest : Tokens) → Links is level ts ls rest → suc level < binds rest → level < binds ts
  links_follow ts ls rest g.Links.done less = omega arith
  links_follow ts ls rest (g.Links.more op right tail) less = omega (arith, sees_binds (level + 1) (infix_strength level) op)

  links_complete : (n : ℕ) (found : List Link) (ts : Tokens) (ls : List Link) (rest : Tokens) → Links is level ts ls rest → suc level < binds rest → length ts ≤ n
      → links read level n found ts ≡ Some (found ++ ls, rest)
  unfolding links
  links_complete zero found ts ls rest g.Links.done less room = ap (λ l. Some (l, rest)) (sym (append-nil found))
  links_complete zero found ts ls rest (g.Links.more op right tail) less room = absurd (omega (arith, sees_one op))
  links_complete (suc n) found ts ls rest g.Links.done less room =
      given_not _ _ (not_seen (infix_at level) (level + 1) (λ mark op e. omega (arith, infix_strength level mark op e)) rest (omega arith)) (ap (λ l. Some (l, rest)) (sym (append-nil found)))
  links_complete (suc n) found ts ls rest (g.Links.more {b = b} {op = o} {spot = p} {right = r} {links = others} op right tail) less room = given_is _ _ (sees_is op)
      (bind_is _ (operand _ _ _ right (links_follow b others rest tail less))
      (links_complete n (found ++ link o p r ∷ []) b others rest tail less (omega (arith, sees_one op, (shaped _ _ _ right).shorter))
      ∙ ap (λ l. Some (l, rest)) (append_assoc found (link o p r ∷ []) others)))

  chain_complete : Complete (suc level) (IsChain is level) (chain_of read level)
  unfolding chain_of
  chain_complete ts expr rest (g.IsChain.alone whole) less = bind_is _ (operand ts expr rest whole (omega arith))
      (bind_is _ (links_complete (length rest) [] rest [] rest g.Links.done less (omega arith)) refl)
  chain_complete ts expr rest (g.chain {a = a} {op = o} {spot = p} {right = r} {links = others} first op right tail) less =
      bind_is _ (operand _ _ _ first (omega (arith, sees_binds (level + 1) (infix_strength level) op)))
      (bind_is _ (links_complete (length a) [] a (link o p r ∷ others) rest (g.Links.more op right tail) less (omega arith)) refl)

-- a unary expression is one of each level
climb : (is : Parts) (level : ℕ) {ts rest : Tokens} (expr : Expr) → IsUnary is ts expr rest → IsBinary is level ts expr rest
climb is zero expr whole = whole
climb is (suc level) expr whole = g.IsChain.alone (climb is level expr whole)

module _ (is : Parts) (d : Readers) (deeper : AllComplete is d) (shaped : AllShaped is) where
  binary_complete : (level : ℕ) → Complete (suc level) (IsBinary is level) (binary_of d level)
  unfolding binary_of
  binary_complete zero = unary_complete is d deeper shaped
  binary_complete (suc level) = chain_complete (IsBinary is level) (binary_of d level) (suc level) (binary_complete level) (binary_shape is shaped level)

  cond_complete : Complete 12 (IsCond is) (cond_of d)
  unfolding cond_of branches_of
  cond_complete ts expr rest (g.IsCond.alone whole) less = bind_is _ (binary_complete 10 ts expr rest whole (omega arith)) (given_not _ _ (not_taken m.Question rest less) refl)
  cond_complete ts expr rest (g.cond first question middle colon otherwise) less = bind_is _ (binary_complete 10 _ _ _ first (omega (arith, takes_binds question)))
      (given_is _ _ (takes_is question) (bind_is _ (deeper.assign _ _ _ middle (closes m.Colon colon (omega arith)))
      (bind_is _ (takes_is colon) (bind_is _ (deeper.cond _ _ _ otherwise less) refl))))

  unassigned : (expr : Expr) (rest : Tokens) → 13 < binds rest → (layer : Expr-F Arg Expr Link Target) → assigned_to d expr rest layer ≡ Some (expr, rest)
  unassigned expr rest less (Expr-F.Read target) = given_not _ _ (not_seen set_of 13 (λ mark op e. omega (arith, set_strength mark op e)) rest less) refl
  unassigned expr rest less _ = refl

  pub assign_complete : Complete 13 (IsAssign is) (assign_of d)
  unfolding assign_of
  assign_complete ts expr rest (g.IsAssign.plain whole) less = bind_is _ (cond_complete ts expr rest whole (omega arith)) (unassigned expr rest less (out-Expr expr))
  assign_complete ts expr rest (g.assigned {a = a} {target = t} whole op right) less =
      bind_is _ (cond_complete ts (e.Read t) a (g.IsCond.alone (climb is 10 (e.Read t) (g.read whole))) (omega (arith, sees_binds 13 set_strength op)))
      (ap (assigned_to d (e.Read t) a) (outs-Read t) ∙ given_is _ _ (sees_is op) (bind_is _ (deeper.assign _ _ _ right less) refl))

  arg_complete : Complete 13 (IsArg is) (arg_of d)
  unfolding arg_of
  arg_complete ts arg rest (g.address {a = a} {target = t} ampersand whole) less = given_is _ _ (takes_is ampersand) (bind_is _ (target_complete is d deeper shaped a t rest whole (omega arith)) refl)
  arg_complete ts arg rest (g.text whole) less = given_not _ _ (quoted_not (exactly m.Ampersand) whole) (given_is _ _ (quoted_is whole) refl)
  arg_complete ts arg rest (g.value {expr = x} whole) less =
      let opening = (assign_shape is shaped ts x rest whole).opens in
      given_not _ _ (no_opening m.Ampersand refl ts opening) (given_not _ _ (no_text ts opening) (bind_is _ (assign_complete ts x rest whole less) refl))

pub all_complete : (room : ℕ) → AllComplete (parts room) (readers room)
all_complete zero = record {
  target = λ ts part rest h less. elim h [ ];
  unary = λ ts part rest h less. elim h [ ];
  cond = λ ts part rest h less. elim h [ ];
  assign = λ ts part rest h less. elim h [ ];
  arg = λ ts part rest h less. elim h [ ];
}
all_complete (suc room) =
    let deeper = all_complete room in
    let shaped = all_shaped room in
    record {
      target = target_complete (parts room) (readers room) deeper shaped;
      unary = unary_complete (parts room) (readers room) deeper shaped;
      cond = cond_complete (parts room) (readers room) deeper shaped;
      assign = assign_complete (parts room) (readers room) deeper shaped;
      arg = arg_complete (parts room) (readers room) deeper shaped;
    }
