-- Programs of a text, and where it has none.
use Rattle.std.specs.Prelude.{◌≡◌, ℕ, List}
use Rattle.c11_lexer.specs.declared.token.Token.{Token}
use Rattle.c11_ast.specs.declared.item.Program.{Program}
use Rattle.c11_grammar.specs.Tokens.{Tokens}
use Rattle.c11_grammar.specs.Programs.{IsProgram}
use Rattle.c11_grammar.specs.Laws.{IsNoProgram}
use Rattle.c11_parser.specs.declared.whole.SyntaxFault.{SyntaxFault}
use Rattle.c11_parser.specs.declared.whole.SyntaxFault.TheVariants as fault
use Rattle.c11_parser.specs.Sorting.{lexemes}

-- The tokens of the source are this program.
abbrev pub Tree : List ℕ → List Token → Program → Type 0
Tree source tokens program = IsProgram (lexemes source tokens) program.items

-- The tokens of the source are no program; on this line and in this column stands the first token after the longest run of whole items.
abbrev pub NoTree : List ℕ → List Token → ℕ → ℕ → Type 0
NoTree source tokens line column = IsNoProgram (lexemes source tokens) (record { line = line; column = column })

-- Unless memory ran out, the fault is there.
abbrev pub Misses : Tokens → SyntaxFault → Type 0
Misses tokens (fault.Item line column) = IsNoProgram tokens (record { line = line; column = column })
Misses tokens fault.NoMemory = Unit {0}

abbrev pub IsFault : List ℕ → List Token → SyntaxFault → Type 0
IsFault source tokens = Misses (lexemes source tokens)

-- ---- laws

-- The tokens of a source are one program at most.
abbrev pub OneTree : Type 0
OneTree = (source : List ℕ) (tokens : List Token) (one other : Program) → Tree source tokens one → Tree source tokens other → one ≡ other

-- Tokens that are no program have a place of the fault, so there is a token there; and no program has one.
pub data Answer (source : List ℕ) (tokens : List Token) : Type 0 where
  tree : (program : Program) → Tree source tokens program → Answer source tokens
  none : (line column : ℕ) → NoTree source tokens line column → Answer source tokens

abbrev pub SomeAnswer : Type 0
SomeAnswer = (source : List ℕ) (tokens : List Token) → Answer source tokens

-- They have one such place at most.
abbrev pub OnePlace : Type 0
OnePlace = (source : List ℕ) (tokens : List Token) (line column l c : ℕ) → NoTree source tokens line column → NoTree source tokens l c → (line ≡ l) × (column ≡ c)
