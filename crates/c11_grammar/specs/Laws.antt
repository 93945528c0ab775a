-- What is read is in the grammar, and what is in the grammar is read.
use Rattle.std.specs.Prelude.{◌≡◌, ◌<◌, ◌+◌, ℕ, List, [], ◌∷◌, Option, Some, None}
use Rattle.c11_ast.specs.declared.place.Spot.{Spot}
use Rattle.c11_ast.specs.declared.expr.Infix.{Infix}
use Rattle.c11_ast.specs.declared.item.Item.{Item}
use Rattle.c11_grammar.specs.declared.token.Lexeme.{Lexeme}
use Rattle.c11_grammar.specs.declared.token.Mark.{Mark}
use Rattle.c11_grammar.specs.declared.token.Mark.TheVariants as m
use Rattle.c11_grammar.specs.declared.token.Sort.{Sort}
use Rattle.c11_grammar.specs.declared.token.Sort.TheVariants as sort
use Rattle.c11_grammar.specs.Tokens.{Tokens, infix_of}
use Rattle.c11_grammar.specs.Programs.{IsProgram, LongestRun}
use Rattle.c11_grammar.specs.Reading.{Out}

-- what was found, if something was, has the property
pub data Holds {A : Type 0} (P : A → Type 0) : Option A → Type 0 where
  nothing : Holds P None
  finds : {a : A} → P a → Holds P (Some a)

abbrev pub Sound : {A : Type 0} → (Tokens → A → Tokens → Type 0) → (Tokens → Out A) → Type 0
Sound is read = (ts : Tokens) → Holds (λ x. is ts x.0 x.1) (read ts)

-- How far out a mark goes on with what stands before it: 0 with a name, 1 with a target, then with the levels of operators.
abbrev pub strength_by : Option (Infix × ℕ) → Mark → ℕ
strength_by (Some found) mark = found.1 + 1
strength_by None m.LeftParen = 0
strength_by None m.LeftSquare = 0
strength_by None m.Increment = 1
strength_by None m.Decrement = 1
strength_by None m.Question = 12
strength_by None m.Set = 13
strength_by None m.StarSet = 13
strength_by None m.SlashSet = 13
strength_by None m.PercentSet = 13
strength_by None m.PlusSet = 13
strength_by None m.MinusSet = 13
strength_by None m.ShiftLeftSet = 13
strength_by None m.ShiftRightSet = 13
strength_by None m.AmpersandSet = 13
strength_by None m.CaretSet = 13
strength_by None m.BarSet = 13
strength_by None _ = 14

abbrev pub strength : Mark → ℕ
strength mark = strength_by (infix_of mark) mark

abbrev pub sort_strength : Sort → ℕ
sort_strength (sort.Mark mark) = strength mark
sort_strength (sort.Name n) = 14
sort_strength (sort.Literal n) = 14
sort_strength (sort.Text n) = 14
sort_strength sort.Reserved = 14

abbrev pub binds : Tokens → ℕ
binds [] = 14
binds (t ∷ ts) = sort_strength t.sort

-- What is a part, and is not gone on with, is read.
abbrev pub Complete : {A : Type 0} → ℕ → (Tokens → A → Tokens → Type 0) → (Tokens → Out A) → Type 0
Complete {A = A} level is read = (ts : Tokens) (part : A) (rest : Tokens) → is ts part rest → level < binds rest → read ts ≡ Some (part, rest)

-- ---- laws of programs

-- Tokens are one program at most.
abbrev pub OneTree : Type 0
OneTree = (tokens : Tokens) (one other : List Item) → IsProgram tokens one → IsProgram tokens other → one ≡ other

-- The tokens are no program, and this is the place of the first token after the longest run of whole items.
pub record IsNoProgram (tokens : Tokens) (place : Spot) : Type 0 where
  pub first : Lexeme
  pub after : Tokens
  pub place_is : place ≡ first.spot
  pub longest : LongestRun tokens (first ∷ after)
  pub none : (items : List Item) → IsProgram tokens items → ⊥

-- Tokens that are no program have such a place.
pub data Outcome (tokens : Tokens) : Type 0 where
  is_program : (items : List Item) → IsProgram tokens items → Outcome tokens
  is_none : (place : Spot) → IsNoProgram tokens place → Outcome tokens

abbrev pub SomeOutcome : Type 0
SomeOutcome = (tokens : Tokens) → Outcome tokens

-- They have one such place.
abbrev pub OnePlace : Type 0
OnePlace = (tokens : Tokens) (one other : Spot) → IsNoProgram tokens one → IsNoProgram tokens other → one ≡ other
