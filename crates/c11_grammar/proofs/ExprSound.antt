-- An expression that is read is in the grammar: each proof goes as the reading does.
use Rattle.std.proofs.Common.{◌≡◌, ◌∷◌, ◌++◌, ◌∙◌, [], List, false, length, refl, subst, suc, sym, true, zero, ℕ}
use Rattle.c11_ast.specs.declared.expr.Arg.{Arg}
use Rattle.c11_ast.specs.declared.expr.Arg.TheOpen.{Expr-F}
use Rattle.c11_ast.specs.declared.expr.Expr.{Expr, out-Expr}
use Rattle.c11_ast.specs.declared.expr.Expr.TheVariants.{outs-Call, outs-Cast, outs-Chain, outs-Cond, outs-Literal, outs-Paren, outs-Prefix, outs-Read, outs-Step}
use Rattle.c11_ast.specs.declared.expr.Link.{Link}
use Rattle.c11_ast.specs.declared.expr.Target.{Target, out-Target}
use Rattle.c11_ast.specs.declared.place.Spot.{Spot}
use Rattle.c11_ast.specs.declared.place.Word.{Word}
use Rattle.c11_grammar.proofs.Integers.{cast_to_sound}
use Rattle.c11_grammar.proofs.Steps.{holds_bind, holds_given, list_sound, literal_sound, name_sound, see_sound, take_sound, text_sound, weaken}
use Rattle.c11_grammar.specs.Expressions.{IsArg, IsArgs, IsAssign, IsBinary, IsChain, IsCond, IsTarget, IsUnary, Links, Parts, link, parts}
use Rattle.c11_grammar.specs.Laws.{Holds, Sound, finds, nothing}
use Rattle.c11_grammar.specs.Reading.{Out, Readers, arg_of, args_of, assign_of, assigned_to, binary_of, branches_of, chain_of, chained, cond_of, index_after, links, named_of, paren_of, readers, step_after, target_of, unary_of}
use Rattle.c11_grammar.specs.Tokens.{Named, Takes, Tokens, counted, infix_at, prefix_of, set_of, step_of}
use Rattle.std.proofs.lemmas.List.{append-nil, append_assoc}
use Rattle.c11_grammar.specs.declared.token.Mark.TheVariants as m
use Rattle.c11_grammar.specs.Expressions as g

pub record AllSound (is : Parts) (read : Readers) : Type 0 where
  pub target : Sound is.target read.target
  pub unary : Sound is.unary read.unary
  pub cond : Sound is.cond read.cond
  pub assign : Sound is.assign read.assign
  pub arg : Sound is.arg read.arg

module _ (is : Parts) (d : Readers) (deeper : AllSound is d) where
  index_sound : (ts : Tokens) (word : Word) (a : Tokens) → Named ts word a → Holds (λ x. IsTarget is ts x.0 x.1) (index_after d word a)
  unfolding index_after
  index_sound ts word a head = holds_given (take_sound m.LeftSquare a) (finds (g.IsTarget.plain head)) λ p left.
      holds_bind (deeper.assign p.1) λ i index.
      holds_bind (take_sound m.RightSquare i.1) λ q right.
      finds (g.indexed head left index right)

  target_sound : Sound (IsTarget is) (target_of d)
  unfolding target_of
  target_sound ts = holds_bind (name_sound ts) λ w head. index_sound ts w.0 w.1 head

  IsClosed : Tokens → List Arg × Tokens → Type 0
  IsClosed ts x = (a : Tokens) × (q : Spot) × IsArgs is.arg ts x.0 a × Takes m.RightParen a q x.1

  args_sound : (ts : Tokens) → Holds (IsClosed ts) (args_of d ts)
  unfolding args_of IsClosed
  args_sound ts = holds_given (take_sound m.RightParen ts)
      (holds_bind (list_sound is.arg d.arg deeper.arg (length ts) ts) λ args all.
      holds_bind (take_sound m.RightParen args.1) λ q right.
      finds (args.1, q.0.1, g.some all, right))
      λ q right. finds (ts, q.0.1, g.none, right)

  step_after_sound : (ts : Tokens) (target : Target) (a : Tokens) → IsTarget is ts target a → Holds (λ x. IsUnary is ts x.0 x.1) (step_after target a)
  unfolding step_after
  step_after_sound ts target a whole = holds_given (see_sound step_of a) (finds (g.read whole)) λ s step. finds (g.stepped_after whole step)

  named_sound : (ts : Tokens) (word : Word) (a : Tokens) → Named ts word a → Holds (λ x. IsUnary is ts x.0 x.1) (named_of d word a)
  unfolding named_of IsClosed
  named_sound ts word a head = holds_given (take_sound m.LeftParen a)
      (holds_bind (index_sound ts word a head) λ t whole. step_after_sound ts t.0 t.1 whole)
      λ p left. holds_bind (args_sound p.1) λ args h. finds (g.call head left h.2 h.3)

  paren_sound : (ts : Tokens) (p : Spot) (a : Tokens) → Takes m.LeftParen ts p a → Holds (λ x. IsUnary is ts x.0 x.1) (paren_of d p a)
  unfolding paren_of
  paren_sound ts p a left = holds_given (cast_to_sound a)
      (holds_bind (deeper.assign a) λ x inner. holds_bind (take_sound m.RightParen x.1) λ q right. finds (g.paren left inner right))
      λ t type. holds_bind (take_sound m.RightParen t.1) λ q right. holds_bind (deeper.unary q.1) λ x inner. finds (g.cast left type right inner)

  unary_sound : Sound (IsUnary is) (unary_of d)
  unfolding unary_of
  unary_sound ts =
      holds_given (see_sound prefix_of ts) (
      holds_given (see_sound step_of ts) (
      holds_given (take_sound m.LeftParen ts) (
      holds_given (literal_sound ts) (
      holds_bind (name_sound ts) λ w head. named_sound ts w.0 w.1 head)
      λ n counted. finds (g.literal counted))
      λ p left. paren_sound ts p.0.1 p.1 left)
      λ s step. holds_bind (deeper.target s.1) λ t target. finds (g.stepped step target))
      λ o op. holds_bind (deeper.unary o.1) λ x inner. finds (g.prefixed op inner)

module _ (is : Tokens → Expr → Tokens → Type 0) (read : Tokens → Out Expr) (operand : Sound is read) (level : ℕ) where
  AddsLinks : List Link → Tokens → List Link × Tokens → Type 0
  AddsLinks found ts x = (more : List Link) × (x.0 ≡ found ++ more) × Links is level ts more x.1

  links_sound : (n : ℕ) (found : List Link) (ts : Tokens) → Holds (AddsLinks found ts) (links read level n found ts)
  unfolding links AddsLinks
  links_sound zero found ts = (finds ([], sym (append-nil found), g.Links.done))
  links_sound (suc n) found ts = holds_given (see_sound (infix_at level) ts) (finds ([], sym (append-nil found), g.Links.done)) λ o op.
      holds_bind (operand o.1) λ x right.
      weaken (links_sound n (found ++ link o.0.0 o.0.1 x.0 ∷ []) x.1) λ y h.
      (link o.0.0 o.0.1 x.0 ∷ h.0, h.1 ∙ append_assoc found (link o.0.0 o.0.1 x.0 ∷ []) h.0, g.Links.more op right h.2)

  chained_sound : (ts a rest : Tokens) (first : Expr) (ls : List Link) → is ts first a → Links is level a ls rest → IsChain is level ts (chained first ls) rest
  chained_sound ts a rest first ls head g.Links.done = g.IsChain.alone head
  chained_sound ts a rest first ls head (g.Links.more op right others) = g.chain head op right others

  chain_sound : Sound (IsChain is level) (chain_of read level)
  unfolding chain_of AddsLinks
  chain_sound ts = holds_bind (operand ts) λ first head.
      holds_bind (links_sound (length first.1) [] first.1) λ ls h.
      finds (chained_sound ts first.1 ls.1 first.0 ls.0 head (subst (λ (l : List Link). Links is level first.1 l ls.1) (sym h.1) h.2))

module _ (is : Parts) (d : Readers) (deeper : AllSound is d) where
  binary_sound : (level : ℕ) → Sound (IsBinary is level) (binary_of d level)
  unfolding binary_of
  binary_sound zero = unary_sound is d deeper
  binary_sound (suc level) = chain_sound (IsBinary is level) (binary_of d level) (binary_sound level) (suc level)

  cond_sound : Sound (IsCond is) (cond_of d)
  unfolding cond_of branches_of
  cond_sound ts = holds_bind (binary_sound 10 ts) λ test first.
      holds_given (take_sound m.Question test.1) (finds (g.IsCond.alone first)) λ p question.
      holds_bind (deeper.assign p.1) λ yes middle.
      holds_bind (take_sound m.Colon yes.1) λ q colon.
      holds_bind (deeper.cond q.1) λ no otherwise.
      finds (g.cond first question middle colon otherwise)

  -- an expression that is a variable alone is read as a target
  unary_read : {ts rest : Tokens} (expr : Expr) (target : Target) → IsUnary is ts expr rest → out-Expr expr ≡ Expr-F.Read target → IsTarget is ts target rest
  unary_read {ts} {rest} expr target (g.read {target = other} whole) layer =
      let same : Expr-F.Read other ≡ Expr-F.Read target = sym (outs-Read other) ∙ layer in
      let equal : other ≡ target = cc in subst (λ (x : Target). IsTarget is ts x rest) equal whole
  unary_read expr target (g.prefixed {op = o} {spot = p} {inner = i} op inner) layer = cc (outs-Prefix p o i)
  unary_read expr target (g.stepped {up = u} {spot = p} {target = t} step whole) layer = cc (outs-Step p p t u true)
  unary_read expr target (g.cast {p = p} {to = t} {inner = i} left type right inner) layer = cc (outs-Cast p t i)
  unary_read expr target (g.stepped_after {up = u} {spot = p} {target = t} whole step) layer = cc (outs-Step (out-Target t).word.spot p t u false)
  unary_read expr target (g.call {word = w} {args = l} head left args right) layer = cc (outs-Call w l)
  unary_read expr target (g.literal {value = n} {spot = p} counted) layer = cc (outs-Literal p n)
  unary_read expr target (g.paren {p = p} {inner = i} left inner right) layer = cc (outs-Paren p i)

  binary_read : (level : ℕ) {ts rest : Tokens} (expr : Expr) (target : Target) → IsBinary is level ts expr rest → out-Expr expr ≡ Expr-F.Read target
      → IsTarget is ts target rest
  binary_read zero expr target whole layer = unary_read expr target whole layer
  binary_read (suc level) expr target (g.IsChain.alone whole) layer = binary_read level expr target whole layer
  binary_read (suc level) expr target (g.chain {op = o} {spot = p} {first = f} {right = r} {links = l} head op right others) layer = cc (outs-Chain f (link o p r ∷ l))

  cond_read : {ts rest : Tokens} (expr : Expr) (target : Target) → IsCond is ts expr rest → out-Expr expr ≡ Expr-F.Read target → IsTarget is ts target rest
  cond_read expr target (g.IsCond.alone whole) layer = binary_read 10 expr target whole layer
  cond_read expr target (g.cond {test = t} {yes = y} {no = n} first question middle colon otherwise) layer = cc (outs-Cond t y n)

  assigned_sound : (ts a : Tokens) (expr : Expr) → IsCond is ts expr a → (layer : Expr-F Arg Expr Link Target) → out-Expr expr ≡ layer
      → Holds (λ x. IsAssign is ts x.0 x.1) (assigned_to d expr a layer)
  assigned_sound ts a expr whole (Expr-F.Read target) open_ = holds_given (see_sound set_of a) (finds (g.IsAssign.plain whole)) λ s op.
      holds_bind (deeper.assign s.1) λ value right.
      finds (g.assigned (cond_read expr target whole open_) op right)
  assigned_sound ts a expr whole _ open_ = finds (g.IsAssign.plain whole)

  pub assign_sound : Sound (IsAssign is) (assign_of d)
  unfolding assign_of
  assign_sound ts = holds_bind (cond_sound ts) λ x whole. assigned_sound ts x.1 x.0 whole (out-Expr x.0) refl

  arg_sound : Sound (IsArg is) (arg_of d)
  unfolding arg_of
  arg_sound ts =
      holds_given (take_sound m.Ampersand ts) (
      holds_given (text_sound ts) (
      holds_bind (assign_sound ts) λ x whole. finds (g.value whole))
      λ t whole. finds (g.text whole))
      λ p ampersand. holds_bind (target_sound is d deeper p.1) λ t whole. finds (g.address ampersand whole)

pub all_sound : (room : ℕ) → AllSound (parts room) (readers room)
all_sound zero = record { target = λ _. nothing; unary = λ _. nothing; cond = λ _. nothing; assign = λ _. nothing; arg = λ _. nothing }
all_sound (suc room) =
    let deeper = all_sound room in
    record {
      target = target_sound (parts room) (readers room) deeper;
      unary = unary_sound (parts room) (readers room) deeper;
      cond = cond_sound (parts room) (readers room) deeper;
      assign = assign_sound (parts room) (readers room) deeper;
      arg = arg_sound (parts room) (readers room) deeper;
    }
