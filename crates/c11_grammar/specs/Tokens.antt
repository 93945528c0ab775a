-- What the grammar asks of single tokens, and lists of parts.
use Rattle.std.specs.Prelude.{◌≡◌, ℕ, Bool, true, false, List, [], ◌∷◌, Option, Some, None, if◌then◌else◌, ◌==◌}
use denote.Enum.Bare.{sameb}
use Rattle.c11_num.specs.Ranges.{TypedNumber}
use Rattle.c11_num.specs.declared.value.CType.{CType}
use Rattle.c11_num.specs.declared.value.CType.TheVariants as c
use Rattle.c11_num.specs.declared.kind.BinaryOp.{BinaryOp}
use Rattle.c11_num.specs.declared.kind.BinaryOp.TheVariants as b
use Rattle.c11_ast.specs.declared.place.Spot.{Spot}
use Rattle.c11_ast.specs.declared.place.Word.{Word}
use Rattle.c11_ast.specs.declared.expr.Infix.{Infix}
use Rattle.c11_ast.specs.declared.expr.Infix.TheVariants as i
use Rattle.c11_ast.specs.declared.expr.Prefix.{Prefix}
use Rattle.c11_ast.specs.declared.expr.Prefix.TheVariants as p
use Rattle.c11_grammar.specs.contracts.token.Mark.{the_type}
use Rattle.c11_grammar.specs.declared.token.Mark.{Mark}
use Rattle.c11_grammar.specs.declared.token.Mark.TheVariants as m
use Rattle.c11_grammar.specs.declared.token.Sort.TheVariants as sort
use Rattle.c11_grammar.specs.declared.token.Lexeme.{Lexeme}

abbrev pub Tokens : Type 0
Tokens = List Lexeme

-- ---- tables

-- The operator between operands that a mark is, and its level: 1 binds tightest (C11 6.5.5 to 6.5.14).
abbrev pub infix_of : Mark → Option (Infix × ℕ)
infix_of m.Star = Some (i.Number b.Mul, 1)
infix_of m.Slash = Some (i.Number b.Div, 1)
infix_of m.Percent = Some (i.Number b.Rem, 1)
infix_of m.Plus = Some (i.Number b.Add, 2)
infix_of m.Minus = Some (i.Number b.Sub, 2)
infix_of m.ShiftLeft = Some (i.Number b.Shl, 3)
infix_of m.ShiftRight = Some (i.Number b.Shr, 3)
infix_of m.Less = Some (i.Number b.Lt, 4)
infix_of m.Greater = Some (i.Number b.Gt, 4)
infix_of m.LessEqual = Some (i.Number b.Le, 4)
infix_of m.GreaterEqual = Some (i.Number b.Ge, 4)
infix_of m.EqualEqual = Some (i.Number b.Eq, 5)
infix_of m.NotEqual = Some (i.Number b.Ne, 5)
infix_of m.Ampersand = Some (i.Number b.And, 6)
infix_of m.Caret = Some (i.Number b.Xor, 7)
infix_of m.Bar = Some (i.Number b.Or, 8)
infix_of m.Both = Some (i.Both, 9)
infix_of m.Either = Some (i.Either, 10)
infix_of _ = None

abbrev pub of_level : ℕ → Option (Infix × ℕ) → Option Infix
of_level level None = None
of_level level (Some found) = if found.1 == level then Some found.0 else None

-- the operator of this level that a mark is
abbrev pub infix_at : ℕ → Mark → Option Infix
infix_at level mark = of_level level (infix_of mark)

-- the operator that stands before an operand
abbrev pub prefix_of : Mark → Option Prefix
prefix_of m.Plus = Some p.Plus
prefix_of m.Minus = Some p.Minus
prefix_of m.Bang = Some p.Not
prefix_of m.Tilde = Some p.Flip
prefix_of _ = None

-- what an assignment computes, nothing for a plain one (C11 6.5.16)
abbrev pub set_of : Mark → Option (Option BinaryOp)
set_of m.Set = Some None
set_of m.StarSet = Some (Some b.Mul)
set_of m.SlashSet = Some (Some b.Div)
set_of m.PercentSet = Some (Some b.Rem)
set_of m.PlusSet = Some (Some b.Add)
set_of m.MinusSet = Some (Some b.Sub)
set_of m.ShiftLeftSet = Some (Some b.Shl)
set_of m.ShiftRightSet = Some (Some b.Shr)
set_of m.AmpersandSet = Some (Some b.And)
set_of m.CaretSet = Some (Some b.Xor)
set_of m.BarSet = Some (Some b.Or)
set_of _ = None

-- whether a step counts up
abbrev pub step_of : Mark → Option Bool
step_of m.Increment = Some true
step_of m.Decrement = Some false
step_of _ = None

-- the atomic type that one word names (C11 7.17.6)
abbrev pub atomic_of : Mark → Option CType
atomic_of m.AtomicInt = Some c.Int
atomic_of m.AtomicUint = Some c.Unsigned
atomic_of m.AtomicLong = Some c.Long
atomic_of m.AtomicUlong = Some c.ULong
atomic_of _ = None

-- the words that begin a declaration in a block
abbrev pub declares : Mark → Option (Unit {0})
declares m.Int = Some tt
declares m.Unsigned = Some tt
declares m.Long = Some tt
declares m.ThrdT = Some tt
declares _ = None

abbrev pub exactly : Mark → Mark → Option (Unit {0})
exactly mark other = if sameb the_type mark other then Some tt else None

-- ---- tokens

-- The first token is a mark that stands for a, at the spot, and the rest follows.
pub data Sees {A : Type 0} (what : Mark → Option A) : Tokens → A → Spot → Tokens → Type 0 where
  sees : {mark : Mark} {a : A} {spot : Spot} {rest : Tokens} → what mark ≡ Some a
      → Sees what (record { sort = sort.Mark mark; spot = spot } ∷ rest) a spot rest

-- The first token is this mark.
pub data Takes (mark : Mark) : Tokens → Spot → Tokens → Type 0 where
  takes : {spot : Spot} {rest : Tokens} → Takes mark (record { sort = sort.Mark mark; spot = spot } ∷ rest) spot rest

-- The first token may be this mark; the tokens after it follow.
pub data MayTake (mark : Mark) : Tokens → Tokens → Type 0 where
  without : {ts : Tokens} → MayTake mark ts ts
  with_it : {ts rest : Tokens} {spot : Spot} → Takes mark ts spot rest → MayTake mark ts rest

-- The tokens do not begin with this mark.
abbrev pub Free : Mark → Tokens → Type 0
Free mark ts = (spot : Spot) (rest : Tokens) → Takes mark ts spot rest → ⊥

-- The first token is a name.
pub data Named : Tokens → Word → Tokens → Type 0 where
  named : {spot : Spot} {name : List ℕ} {rest : Tokens}
      → Named (record { sort = sort.Name name; spot = spot } ∷ rest) (record { spot = spot; name = name }) rest

-- The first token is a literal.
pub data Counted : Tokens → TypedNumber → Spot → Tokens → Type 0 where
  counted : {spot : Spot} {value : TypedNumber} {rest : Tokens}
      → Counted (record { sort = sort.Literal value; spot = spot } ∷ rest) value spot rest

-- The first token is a text.
pub data Quoted : Tokens → List ℕ → Spot → Tokens → Type 0 where
  quoted : {spot : Spot} {bytes : List ℕ} {rest : Tokens}
      → Quoted (record { sort = sort.Text bytes; spot = spot } ∷ rest) bytes spot rest

-- Some token stands first, at this spot.
pub data Begins : Tokens → Spot → Type 0 where
  begins : {token : Lexeme} {rest : Tokens} → Begins (token ∷ rest) token.spot

-- ---- lists

-- part {',' part}
pub data Commas {A : Type 0} (part : Tokens → A → Tokens → Type 0) : Tokens → List A → Tokens → Type 0 where
  last : {ts rest : Tokens} {x : A} → part ts x rest → Commas part ts (x ∷ []) rest
  comma : {ts a b rest : Tokens} {spot : Spot} {x : A} {xs : List A} → part ts x a → Takes m.Comma a spot b → Commas part b xs rest
      → Commas part ts (x ∷ xs) rest
