-- Expressions (C11 6.5), one case for each production, with the rule of depth.
--
-- An expression has room for a number of levels, its own one among them. `deeper` are the parts with room for one level less: an
-- expression in parentheses, in brackets or as an argument, the operand of a prefix operator or a cast, the second and the third operand
-- of `?:`, and the right side of an assignment. So the room is what the rule of depth leaves.
use Rattle.std.specs.Prelude.{ℕ, zero, suc, Bool, true, false, List, [], ◌∷◌, Option, Some, None}
use Rattle.c11_num.specs.Ranges.{TypedNumber}
use Rattle.c11_num.specs.declared.kind.BinaryOp.{BinaryOp}
use Rattle.c11_ast.specs.declared.place.Spot.{Spot}
use Rattle.c11_ast.specs.declared.place.Word.{Word}
use Rattle.c11_ast.specs.declared.expr.Infix.{Infix}
use Rattle.c11_ast.specs.declared.expr.Prefix.{Prefix}
use Rattle.c11_ast.specs.declared.expr.CastTo.{CastTo}
use Rattle.c11_ast.specs.declared.expr.Target.{Target, roll-Target, out-Target}
use Rattle.c11_ast.specs.declared.expr.Link.{Link, roll-Link}
use Rattle.c11_ast.specs.declared.expr.Arg.{Arg}
use Rattle.c11_ast.specs.declared.expr.Arg.TheVariants as argument
use Rattle.c11_ast.specs.declared.expr.Expr.{Expr}
use Rattle.c11_ast.specs.declared.expr.Expr.TheVariants as e
use Rattle.c11_grammar.specs.declared.token.Mark.TheVariants as m
use Rattle.c11_grammar.specs.Tokens.{Tokens, infix_at, prefix_of, set_of, step_of, Sees, Takes, Named, Counted, Quoted, Commas}
use Rattle.c11_grammar.specs.Types.{IsCastTo}

pub record Parts : Type 1 where
  pub target : Tokens → Target → Tokens → Type 0
  pub unary : Tokens → Expr → Tokens → Type 0
  pub cond : Tokens → Expr → Tokens → Type 0
  pub assign : Tokens → Expr → Tokens → Type 0
  pub arg : Tokens → Arg → Tokens → Type 0

abbrev pub target_with : Word → Option Expr → Target
target_with word index = roll-Target (record { word = word; index = index })

abbrev pub link : Infix → Spot → Expr → Link
link op spot right = roll-Link (record { op = op; spot = spot; right = right })

-- target := name ['[' assign ']']
pub data IsTarget (deeper : Parts) : Tokens → Target → Tokens → Type 0 where
  plain : {ts rest : Tokens} {word : Word} → Named ts word rest → IsTarget deeper ts (target_with word None) rest
  indexed : {ts a b c rest : Tokens} {word : Word} {p q : Spot} {index : Expr} → Named ts word a → Takes m.LeftSquare a p b
      → deeper.assign b index c → Takes m.RightSquare c q rest → IsTarget deeper ts (target_with word (Some index)) rest

-- [arg {',' arg}]
pub data IsArgs (part : Tokens → Arg → Tokens → Type 0) : Tokens → List Arg → Tokens → Type 0 where
  none : {ts : Tokens} → IsArgs part ts [] ts
  some : {ts rest : Tokens} {args : List Arg} → Commas part ts args rest → IsArgs part ts args rest

-- unary := ('-' | '+' | '!' | '~') unary | ('++' | '--') target | '(' (integer | 'void' ['*']) ')' unary | post
-- post := target ['++' | '--'] | name '(' [arg {',' arg}] ')' | literal | '(' assign ')'
pub data IsUnary (deeper : Parts) : Tokens → Expr → Tokens → Type 0 where
  prefixed : {ts a rest : Tokens} {op : Prefix} {spot : Spot} {inner : Expr} → Sees prefix_of ts op spot a → deeper.unary a inner rest
      → IsUnary deeper ts (e.Prefix spot op inner) rest
  stepped : {ts a rest : Tokens} {up : Bool} {spot : Spot} {target : Target} → Sees step_of ts up spot a → deeper.target a target rest
      → IsUnary deeper ts (e.Step spot spot target up true) rest
  cast : {ts a b c rest : Tokens} {p q : Spot} {to : CastTo} {inner : Expr} → Takes m.LeftParen ts p a → IsCastTo a to b → Takes m.RightParen b q c
      → deeper.unary c inner rest → IsUnary deeper ts (e.Cast p to inner) rest
  read : {ts rest : Tokens} {target : Target} → IsTarget deeper ts target rest → IsUnary deeper ts (e.Read target) rest
  stepped_after : {ts a rest : Tokens} {up : Bool} {spot : Spot} {target : Target} → IsTarget deeper ts target a → Sees step_of a up spot rest
      → IsUnary deeper ts (e.Step (out-Target target).word.spot spot target up false) rest
  call : {ts a b c rest : Tokens} {word : Word} {p q : Spot} {args : List Arg} → Named ts word a → Takes m.LeftParen a p b
      → IsArgs deeper.arg b args c → Takes m.RightParen c q rest → IsUnary deeper ts (e.Call word args) rest
  literal : {ts rest : Tokens} {value : TypedNumber} {spot : Spot} → Counted ts value spot rest → IsUnary deeper ts (e.Literal spot value) rest
  paren : {ts a b rest : Tokens} {p q : Spot} {inner : Expr} → Takes m.LeftParen ts p a → deeper.assign a inner b → Takes m.RightParen b q rest
      → IsUnary deeper ts (e.Paren p inner) rest

-- {op operand}, with the operators of one level
pub data Links (operand : Tokens → Expr → Tokens → Type 0) (level : ℕ) : Tokens → List Link → Tokens → Type 0 where
  done : {ts : Tokens} → Links operand level ts [] ts
  more : {ts a b rest : Tokens} {op : Infix} {spot : Spot} {right : Expr} {links : List Link} → Sees (infix_at level) ts op spot a
      → operand a right b → Links operand level b links rest → Links operand level ts (link op spot right ∷ links) rest

-- operand {op operand}, with the operators of one level; without an operator it is the operand itself
pub data IsChain (operand : Tokens → Expr → Tokens → Type 0) (level : ℕ) : Tokens → Expr → Tokens → Type 0 where
  alone : {ts rest : Tokens} {expr : Expr} → operand ts expr rest → IsChain operand level ts expr rest
  chain : {ts a b c rest : Tokens} {op : Infix} {spot : Spot} {first right : Expr} {links : List Link} → operand ts first a
      → Sees (infix_at level) a op spot b → operand b right c → Links operand level c links rest
      → IsChain operand level ts (e.Chain first (link op spot right ∷ links)) rest

-- prod, sum, shift, rel, eq, band, xor, bor, and, or: the levels 1 to 10
abbrev pub IsBinary : Parts → ℕ → Tokens → Expr → Tokens → Type 0
IsBinary deeper zero = IsUnary deeper
IsBinary deeper (suc level) = IsChain (IsBinary deeper level) (suc level)

-- cond := or ['?' assign ':' cond]
pub data IsCond (deeper : Parts) : Tokens → Expr → Tokens → Type 0 where
  alone : {ts rest : Tokens} {expr : Expr} → IsBinary deeper 10 ts expr rest → IsCond deeper ts expr rest
  cond : {ts a b c d rest : Tokens} {p q : Spot} {test yes no : Expr} → IsBinary deeper 10 ts test a → Takes m.Question a p b
      → deeper.assign b yes c → Takes m.Colon c q d → deeper.cond d no rest → IsCond deeper ts (e.Cond test yes no) rest

-- assign := target ('=' | op '=') assign | cond
pub data IsAssign (deeper : Parts) : Tokens → Expr → Tokens → Type 0 where
  assigned : {ts a b rest : Tokens} {op : Option BinaryOp} {spot : Spot} {target : Target} {value : Expr} → IsTarget deeper ts target a
      → Sees set_of a op spot b → deeper.assign b value rest → IsAssign deeper ts (e.Assign target op spot value) rest
  plain : {ts rest : Tokens} {expr : Expr} → IsCond deeper ts expr rest → IsAssign deeper ts expr rest

-- arg := '&' target | text | assign
pub data IsArg (deeper : Parts) : Tokens → Arg → Tokens → Type 0 where
  address : {ts a rest : Tokens} {p : Spot} {target : Target} → Takes m.Ampersand ts p a → IsTarget deeper a target rest
      → IsArg deeper ts (argument.Address p target) rest
  text : {ts rest : Tokens} {p : Spot} {bytes : List ℕ} → Quoted ts bytes p rest → IsArg deeper ts (argument.Text p bytes) rest
  value : {ts rest : Tokens} {expr : Expr} → IsAssign deeper ts expr rest → IsArg deeper ts (argument.Value expr) rest

-- The parts with room for this many levels. With none there is no part.
abbrev pub parts : ℕ → Parts
parts zero = record { target = λ _ _ _. ⊥; unary = λ _ _ _. ⊥; cond = λ _ _ _. ⊥; assign = λ _ _ _. ⊥; arg = λ _ _ _. ⊥ }
parts (suc room) = record {
  target = IsTarget (parts room);
  unary = IsUnary (parts room);
  cond = IsCond (parts room);
  assign = IsAssign (parts room);
  arg = IsArg (parts room);
}
