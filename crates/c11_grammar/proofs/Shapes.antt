-- How the parts of expressions begin, and that each takes a token.
use Rattle.std.proofs.Common.{◌≡◌, ◌<◌, ◌≤◌, ◌∷◌, [], if◌then◌else◌, Bool, List, None, Option, Some, ap, arith, false, length, refl, suc, true, zero, ℕ}
use Rattle.c11_ast.specs.declared.expr.Arg.{Arg}
use Rattle.c11_ast.specs.declared.expr.Expr.{Expr}
use Rattle.c11_ast.specs.declared.expr.Link.{Link}
use Rattle.c11_ast.specs.declared.expr.Prefix.{Prefix}
use Rattle.c11_ast.specs.declared.expr.Target.{Target}
use Rattle.c11_ast.specs.declared.place.Spot.{Spot}
use Rattle.c11_ast.specs.declared.place.Word.{Word}
use Rattle.c11_grammar.proofs.Integers.{cast_to_shorter}
use Rattle.c11_grammar.proofs.Steps.{commas_shorter, quoted_not, quoted_one, sees_one, takes_not, takes_one}
use Rattle.c11_grammar.specs.Expressions.{IsArg, IsArgs, IsAssign, IsBinary, IsChain, IsCond, IsTarget, IsUnary, Links, Parts, parts}
use Rattle.c11_grammar.specs.Reading.{see, see_sort, seen, take, text, text_sort}
use Rattle.c11_grammar.specs.Tokens.{Counted, Named, Sees, Takes, Tokens, counted, declares, exactly, named, prefix_of, sees, step_of, takes}
use Rattle.c11_grammar.specs.contracts.token.Mark.{the_type}
use Rattle.c11_grammar.specs.declared.token.Mark.{Mark}
use Rattle.c11_grammar.specs.declared.token.Sort.{Sort}
use Rattle.c11_num.specs.Ranges.{TypedNumber}
use denote.Enum.Bare.{same_true, sameb}
use Rattle.c11_grammar.specs.declared.token.Mark.TheVariants as m
use Rattle.c11_grammar.specs.declared.token.Sort.TheVariants as sort
use Rattle.c11_grammar.specs.Expressions as g

-- whether a mark may begin an expression
abbrev pub opens_mark : Mark → Bool
opens_mark m.Plus = true
opens_mark m.Minus = true
opens_mark m.Bang = true
opens_mark m.Tilde = true
opens_mark m.Increment = true
opens_mark m.Decrement = true
opens_mark m.LeftParen = true
opens_mark _ = false

abbrev pub opens_sort : Sort → Bool
opens_sort (sort.Mark mark) = opens_mark mark
opens_sort (sort.Name n) = true
opens_sort (sort.Literal n) = true
opens_sort (sort.Text n) = false
opens_sort sort.Reserved = false

abbrev pub opens : Tokens → Bool
opens [] = false
opens (t ∷ ts) = opens_sort t.sort

pub record Shape (ts rest : Tokens) : Type 0 where
  pub opens : opens ts ≡ true
  pub shorter : length rest < length ts

-- an argument may begin with `&` or be a text
pub record ArgShape (ts rest : Tokens) : Type 0 where
  pub inside : take m.RightParen ts ≡ None
  pub shorter : length rest < length ts

pub record AllShaped (is : Parts) : Type 0 where
  pub target : (ts : Tokens) (part : Target) (rest : Tokens) → is.target ts part rest → Shape ts rest
  pub unary : (ts : Tokens) (part : Expr) (rest : Tokens) → is.unary ts part rest → Shape ts rest
  pub cond : (ts : Tokens) (part : Expr) (rest : Tokens) → is.cond ts part rest → Shape ts rest
  pub assign : (ts : Tokens) (part : Expr) (rest : Tokens) → is.assign ts part rest → Shape ts rest
  pub arg : (ts : Tokens) (part : Arg) (rest : Tokens) → is.arg ts part rest → ArgShape ts rest

named_shape : {ts rest : Tokens} {word : Word} → Named ts word rest → Shape ts rest
named_shape named = record { opens = refl; shorter = omega arith }

counted_shape : {ts rest : Tokens} {n : TypedNumber} {p : Spot} → Counted ts n p rest → Shape ts rest
counted_shape counted = record { opens = refl; shorter = omega arith }

prefix_opens : (mark : Mark) (op : Prefix) → prefix_of mark ≡ Some op → opens_mark mark ≡ true
prefix_opens m.Plus a e = refl
prefix_opens m.Minus a e = refl
prefix_opens m.Bang a e = refl
prefix_opens m.Tilde a e = refl
prefix_opens _ a e = cc

step_opens : (mark : Mark) (up : Bool) → step_of mark ≡ Some up → opens_mark mark ≡ true
step_opens m.Increment a e = refl
step_opens m.Decrement a e = refl
step_opens _ a e = cc

sees_opens : {A : Type 0} {what : Mark → Option A} {ts rest : Tokens} {a : A} {p : Spot} → ((mark : Mark) (a : A) → what mark ≡ Some a → opens_mark mark ≡ true)
    → Sees what ts a p rest → opens ts ≡ true
sees_opens opening (sees {mark = mark} e) = opening mark _ e

paren_opens : {ts rest : Tokens} {p : Spot} → Takes m.LeftParen ts p rest → opens ts ≡ true
paren_opens takes = refl

opposite : (mark other : Mark) → mark ≡ other → opens_mark mark ≡ false → opens_mark other ≡ true → ⊥
opposite mark other equal shut open_ = let same : opens_mark mark ≡ opens_mark other = ap opens_mark equal in cc

differs : (mark other : Mark) (p : Spot) (rest : Tokens) (b : Bool) → sameb the_type mark other ≡ b → opens_mark mark ≡ false → opens_mark other ≡ true
    → seen {A = Unit {0}} (if b then Some tt else None) p rest ≡ None
differs mark other p rest true same shut open_ = absurd (opposite mark other (same_true the_type tt mark other same) shut open_)
differs mark other p rest false same shut open_ = refl

-- no expression head with this mark
pub no_opening : (mark : Mark) → opens_mark mark ≡ false → (ts : Tokens) → opens ts ≡ true → take mark ts ≡ None
no_opening mark shut [] opening = refl
no_opening mark shut (t ∷ ts) opening = sort_differs t.sort opening
  where
    sort_differs : (s : Sort) → opens_sort s ≡ true → see_sort (exactly mark) s t.spot ts ≡ None
    sort_differs (sort.Mark other) open_ = differs mark other t.spot ts (sameb the_type mark other) refl shut open_
    sort_differs (sort.Name n) open_ = refl
    sort_differs (sort.Literal n) open_ = refl
    sort_differs (sort.Text n) open_ = refl
    sort_differs sort.Reserved open_ = refl

pub no_text : (ts : Tokens) → opens ts ≡ true → text ts ≡ None
no_text [] opening = refl
no_text (t ∷ ts) opening = sort_differs t.sort opening
  where
    sort_differs : (s : Sort) → opens_sort s ≡ true → text_sort s t.spot ts ≡ None
    sort_differs (sort.Mark other) open_ = refl
    sort_differs (sort.Name n) open_ = refl
    sort_differs (sort.Literal n) open_ = refl
    sort_differs (sort.Text n) open_ = absurd cc
    sort_differs sort.Reserved open_ = refl

undeclared_mark : (mark : Mark) → opens_mark mark ≡ true → declares mark ≡ None
undeclared_mark m.Plus e = refl
undeclared_mark m.Minus e = refl
undeclared_mark m.Bang e = refl
undeclared_mark m.Tilde e = refl
undeclared_mark m.Increment e = refl
undeclared_mark m.Decrement e = refl
undeclared_mark m.LeftParen e = refl
undeclared_mark _ e = absurd cc

-- no expression head as a declaration
pub undeclared : (ts : Tokens) → opens ts ≡ true → see declares ts ≡ None
undeclared [] opening = refl
undeclared (t ∷ ts) opening = sort_undeclared t.sort opening
  where
    sort_undeclared : (s : Sort) → opens_sort s ≡ true → see_sort declares s t.spot ts ≡ None
    sort_undeclared (sort.Mark other) open_ = ap (λ o. seen o t.spot ts) (undeclared_mark other open_)
    sort_undeclared (sort.Name n) open_ = refl
    sort_undeclared (sort.Literal n) open_ = refl
    sort_undeclared (sort.Text n) open_ = refl
    sort_undeclared sort.Reserved open_ = refl

module _ (is : Parts) (deeper : AllShaped is) where
  target_shape : (ts : Tokens) (target : Target) (rest : Tokens) → IsTarget is ts target rest → Shape ts rest
  target_shape ts target rest (g.IsTarget.plain head) = named_shape head
  target_shape ts target rest (g.indexed head left index right) = record {
    opens = (named_shape head).opens;
    shorter = omega (arith, (named_shape head).shorter, takes_one left, (deeper.assign _ _ _ index).shorter, takes_one right);
  }

  args_shorter : (ts : Tokens) (args : List Arg) (rest : Tokens) → IsArgs is.arg ts args rest → length rest ≤ length ts
  args_shorter ts args rest g.none = omega arith
  args_shorter ts args rest (g.some all) = omega (arith, commas_shorter is.arg (λ a x b h. (deeper.arg a x b h).shorter) ts args rest all)

  unary_shape : (ts : Tokens) (expr : Expr) (rest : Tokens) → IsUnary is ts expr rest → Shape ts rest
  unary_shape ts expr rest (g.prefixed op inner) = record { opens = sees_opens prefix_opens op; shorter = omega (arith, sees_one op, (deeper.unary _ _ _ inner).shorter) }
  unary_shape ts expr rest (g.stepped step whole) = record { opens = sees_opens step_opens step; shorter = omega (arith, sees_one step, (deeper.target _ _ _ whole).shorter) }
  unary_shape ts expr rest (g.cast {a = a} {b = b} {to = to} left type right inner) = record {
    opens = paren_opens left;
    shorter = omega (arith, takes_one left, cast_to_shorter a to b type, takes_one right, (deeper.unary _ _ _ inner).shorter);
  }
  unary_shape ts expr rest (g.read whole) = target_shape ts _ rest whole
  unary_shape ts expr rest (g.stepped_after whole step) = record { opens = (target_shape ts _ _ whole).opens; shorter = omega (arith, sees_one step, (target_shape ts _ _ whole).shorter) }
  unary_shape ts expr rest (g.call head left args right) = record {
    opens = (named_shape head).opens;
    shorter = omega (arith, (named_shape head).shorter, takes_one left, args_shorter _ _ _ args, takes_one right);
  }
  unary_shape ts expr rest (g.literal number) = counted_shape number
  unary_shape ts expr rest (g.paren left inner right) = record { opens = paren_opens left; shorter = omega (arith, takes_one left, (deeper.assign _ _ _ inner).shorter, takes_one right) }

module _ (is : Tokens → Expr → Tokens → Type 0) (operand : (ts : Tokens) (part : Expr) (rest : Tokens) → is ts part rest → Shape ts rest) (level : ℕ) where
  links_shape : (ts : Tokens) (ls : List Link) (rest : Tokens) → Links is level ts ls rest → length rest ≤ length ts
  links_shape ts ls rest g.Links.done = omega arith
  links_shape ts ls rest (g.Links.more {b = b} {links = others} op right tail) = omega (arith, sees_one op, (operand _ _ _ right).shorter, links_shape b others rest tail)

  chain_shape : (ts : Tokens) (expr : Expr) (rest : Tokens) → IsChain is level ts expr rest → Shape ts rest
  chain_shape ts expr rest (g.IsChain.alone whole) = operand ts expr rest whole
  chain_shape ts expr rest (g.chain first op right others) = record {
    opens = (operand _ _ _ first).opens;
    shorter = omega (arith, (operand _ _ _ first).shorter, sees_one op, (operand _ _ _ right).shorter, links_shape _ _ _ others);
  }

module _ (is : Parts) (deeper : AllShaped is) where
  pub binary_shape : (level : ℕ) (ts : Tokens) (expr : Expr) (rest : Tokens) → IsBinary is level ts expr rest → Shape ts rest
  binary_shape zero = unary_shape is deeper
  binary_shape (suc level) = chain_shape (IsBinary is level) (binary_shape level) (suc level)

  cond_shape : (ts : Tokens) (expr : Expr) (rest : Tokens) → IsCond is ts expr rest → Shape ts rest
  cond_shape ts expr rest (g.IsCond.alone whole) = binary_shape 10 ts expr rest whole
  cond_shape ts expr rest (g.cond first question middle colon otherwise) = record {
    opens = (binary_shape 10 _ _ _ first).opens;
    shorter = omega (arith, (binary_shape 10 _ _ _ first).shorter, takes_one question, (deeper.assign _ _ _ middle).shorter, takes_one colon, (deeper.cond _ _ _ otherwise).shorter);
  }

  pub assign_shape : (ts : Tokens) (expr : Expr) (rest : Tokens) → IsAssign is ts expr rest → Shape ts rest
  assign_shape ts expr rest (g.assigned whole op right) = record {
    opens = (target_shape is deeper _ _ _ whole).opens;
    shorter = omega (arith, (target_shape is deeper _ _ _ whole).shorter, sees_one op, (deeper.assign _ _ _ right).shorter);
  }
  assign_shape ts expr rest (g.IsAssign.plain whole) = cond_shape ts expr rest whole

  arg_shape : (ts : Tokens) (arg : Arg) (rest : Tokens) → IsArg is ts arg rest → ArgShape ts rest
  arg_shape ts arg rest (g.address ampersand whole) = record {
    inside = takes_not (exactly m.RightParen) refl ampersand;
    shorter = omega (arith, takes_one ampersand, (target_shape is deeper _ _ _ whole).shorter);
  }
  arg_shape ts arg rest (g.text whole) = record { inside = quoted_not (exactly m.RightParen) whole; shorter = omega (arith, quoted_one whole) }
  arg_shape ts arg rest (g.value whole) = record { inside = no_opening m.RightParen refl ts (assign_shape _ _ _ whole).opens; shorter = (assign_shape _ _ _ whole).shorter }

pub all_shaped : (room : ℕ) → AllShaped (parts room)
all_shaped zero = record { target = λ ts part rest h. elim h [ ]; unary = λ ts part rest h. elim h [ ]; cond = λ ts part rest h. elim h [ ]; assign = λ ts part rest h. elim h [ ]; arg = λ ts part rest h. elim h [ ] }
all_shaped (suc room) =
    let deeper = all_shaped room in
    record {
      target = target_shape (parts room) deeper;
      unary = unary_shape (parts room) deeper;
      cond = cond_shape (parts room) deeper;
      assign = assign_shape (parts room) deeper;
      arg = arg_shape (parts room) deeper;
    }
