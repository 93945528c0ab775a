-- What the tokens of a text are to the grammar.
use Rattle.std.specs.Prelude.{◌≤◌, length, ℕ, ◌-◌, nat_lt, Bool, ◌||◌, not, if◌then◌else◌, List, [], ◌∷◌, map, take, drop, Option, Some, None, codes}
use Rattle.std.specs.List.{list_any}
use Rattle.std.specs.Str.{bytes_eq}
use Rattle.c11_lexer.specs.declared.token.TokenKind.{TokenKind}
use Rattle.c11_lexer.specs.declared.token.TokenKind.TheVariants as k
use Rattle.c11_lexer.specs.declared.token.Token.{Token}
use Rattle.c11_grammar.specs.declared.token.Mark.{Mark}
use Rattle.c11_grammar.specs.declared.token.Mark.TheVariants as m
use Rattle.c11_grammar.specs.declared.token.Sort.{Sort}
use Rattle.c11_grammar.specs.declared.token.Sort.TheVariants as sort
use Rattle.c11_grammar.specs.declared.token.Lexeme.{Lexeme}
use Rattle.c11_grammar.specs.Tokens.{Tokens}

abbrev pub Table : Type 0
Table = List (List ℕ × Mark)

-- what a table has for a spelling
abbrev pub look_up : Table → List ℕ → Option Mark
look_up [] bytes = None
look_up (entry ∷ table) bytes = if bytes_eq bytes entry.0 then Some entry.1 else look_up table bytes

abbrev pub or_else : Option Mark → Option Mark → Option Mark
or_else (Some mark) other = Some mark
or_else None other = other

-- ---- punctuators (C11 6.4.6)

abbrev pub operators : Table
operators = (codes "*", m.Star) ∷ (codes "/", m.Slash) ∷ (codes "%", m.Percent) ∷ (codes "+", m.Plus) ∷ (codes "-", m.Minus)
    ∷ (codes "<<", m.ShiftLeft) ∷ (codes ">>", m.ShiftRight) ∷ (codes "<", m.Less) ∷ (codes ">", m.Greater) ∷ (codes "<=", m.LessEqual)
    ∷ (codes ">=", m.GreaterEqual) ∷ (codes "==", m.EqualEqual) ∷ (codes "!=", m.NotEqual) ∷ []

abbrev pub bit_operators : Table
bit_operators = (codes "&", m.Ampersand) ∷ (codes "^", m.Caret) ∷ (codes "|", m.Bar) ∷ (codes "&&", m.Both) ∷ (codes "||", m.Either)
    ∷ (codes "!", m.Bang) ∷ (codes "~", m.Tilde) ∷ (codes "++", m.Increment) ∷ (codes "--", m.Decrement) ∷ []

abbrev pub assignments : Table
assignments = (codes "=", m.Set) ∷ (codes "*=", m.StarSet) ∷ (codes "/=", m.SlashSet) ∷ (codes "%=", m.PercentSet) ∷ (codes "+=", m.PlusSet)
    ∷ (codes "-=", m.MinusSet) ∷ (codes "<<=", m.ShiftLeftSet) ∷ (codes ">>=", m.ShiftRightSet) ∷ (codes "&=", m.AmpersandSet)
    ∷ (codes "^=", m.CaretSet) ∷ (codes "|=", m.BarSet) ∷ []

abbrev pub brackets : Table
brackets = (codes "(", m.LeftParen) ∷ (codes ")", m.RightParen) ∷ (codes "[", m.LeftSquare) ∷ (codes "]", m.RightSquare)
    ∷ (codes "{", m.LeftBrace) ∷ (codes "}", m.RightBrace) ∷ (codes ",", m.Comma) ∷ (codes ";", m.Semicolon) ∷ (codes "?", m.Question)
    ∷ (codes ":", m.Colon) ∷ []

abbrev pub mark_of : List ℕ → Option Mark
mark_of bytes = or_else (look_up brackets bytes) (or_else (look_up operators bytes) (or_else (look_up assignments bytes) (look_up bit_operators bytes)))

-- ---- reserved words (C11 6.4.1, and names of 7.17 and 7.26)

abbrev pub type_words : Table
type_words = (codes "int", m.Int) ∷ (codes "unsigned", m.Unsigned) ∷ (codes "long", m.Long) ∷ (codes "void", m.Void) ∷ (codes "static", m.Static)
    ∷ (codes "_Atomic", m.Atomic) ∷ (codes "atomic_int", m.AtomicInt) ∷ (codes "atomic_uint", m.AtomicUint) ∷ (codes "atomic_long", m.AtomicLong)
    ∷ (codes "atomic_ulong", m.AtomicUlong) ∷ (codes "mtx_t", m.MtxT) ∷ (codes "thrd_t", m.ThrdT) ∷ (codes "ATOMIC_VAR_INIT", m.AtomicVarInit) ∷ []

abbrev pub statement_words : Table
statement_words = (codes "if", m.If) ∷ (codes "else", m.Else) ∷ (codes "while", m.While) ∷ (codes "do", m.Do) ∷ (codes "for", m.For)
    ∷ (codes "break", m.Break) ∷ (codes "continue", m.Continue) ∷ (codes "return", m.Return) ∷ []

abbrev pub word_mark : List ℕ → Option Mark
word_mark bytes = or_else (look_up statement_words bytes) (look_up type_words bytes)

-- the keywords of C11 that the grammar has no place for
abbrev pub other_keywords : List (List ℕ)
other_keywords = codes "auto" ∷ codes "case" ∷ codes "char" ∷ codes "const" ∷ codes "default" ∷ codes "double" ∷ codes "enum" ∷ codes "extern"
    ∷ codes "float" ∷ codes "goto" ∷ codes "inline" ∷ codes "register" ∷ codes "restrict" ∷ codes "short" ∷ codes "signed" ∷ []

abbrev pub more_keywords : List (List ℕ)
more_keywords = codes "sizeof" ∷ codes "struct" ∷ codes "switch" ∷ codes "typedef" ∷ codes "union" ∷ codes "volatile" ∷ codes "_Alignas" ∷ codes "_Alignof"
    ∷ codes "_Bool" ∷ codes "_Complex" ∷ codes "_Generic" ∷ codes "_Imaginary" ∷ codes "_Noreturn" ∷ codes "_Static_assert" ∷ codes "_Thread_local" ∷ []

abbrev pub is_one_of : List (List ℕ) → List ℕ → Bool
is_one_of words bytes = list_any (bytes_eq bytes) words

-- a byte past ASCII, which no word of a text has
abbrev pub is_foreign : List ℕ → Bool
is_foreign bytes = list_any (λ b. not (nat_lt b 128)) bytes

abbrev pub is_reserved : List ℕ → Bool
is_reserved bytes = is_one_of other_keywords bytes || (is_one_of more_keywords bytes || is_foreign bytes)

-- ---- tokens

abbrev pub marked : Option Mark → Sort
marked (Some mark) = sort.Mark mark
marked None = sort.Reserved

-- a word that the grammar does not know is a name where it is not reserved
abbrev pub named : Option Mark → List ℕ → Sort
named (Some mark) bytes = sort.Mark mark
named None bytes = if is_reserved bytes then sort.Reserved else sort.Name bytes

abbrev pub sort_of : TokenKind → List ℕ → Sort
sort_of k.Word bytes = named (word_mark bytes) bytes
sort_of (k.Literal value) bytes = sort.Literal value
sort_of (k.Text value) bytes = sort.Text value
sort_of k.Mark bytes = marked (mark_of bytes)
sort_of k.Include bytes = sort.Mark m.Include
sort_of k.Define bytes = sort.Mark m.Define

-- the bytes of a token
abbrev pub bytes_of : List ℕ → Token → List ℕ
bytes_of source token = take (token.end - token.start) (drop token.start source)

-- the token's bytes lie in the source
pub record IsInside (source : List ℕ) (token : Token) : Type 0 where
  pub rises : token.start ≤ token.end
  pub within : token.end ≤ length source

abbrev pub lexeme_of : List ℕ → Token → Lexeme
lexeme_of source token = record { sort = sort_of token.kind (bytes_of source token); spot = record { line = token.line; column = token.column } }

abbrev pub lexemes : List ℕ → List Token → Tokens
lexemes source tokens = map (lexeme_of source) tokens
