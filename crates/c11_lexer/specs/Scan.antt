-- The tokens of a text by longest match, or its first fault (ISO/IEC 9899:2011, 6.4).
use Rattle.std.specs.Prelude.{◌≡◌, ◌≤◌, ◌<◌, ℕ, ◌+◌, ◌==◌, nat_lt, ◌&&◌, Bool, true, false, if◌then◌else◌, List, [], ◌∷◌, ◌++◌, length, take, drop, All, Result, Ok, Err}
use Rattle.c11_num.specs.Ranges.{TypedNumber}
use Rattle.c11_lexer.specs.declared.piece.Piece.{Piece}
use Rattle.c11_lexer.specs.declared.piece.Piece.TheVariants as p
use Rattle.c11_lexer.specs.declared.cursor.Cursor.{Cursor}
use Rattle.c11_lexer.specs.declared.scan.Outcome.{Outcome}
use Rattle.c11_lexer.specs.declared.scan.Outcome.TheVariants as o
use Rattle.c11_lexer.specs.declared.token.TokenKind.{TokenKind}
use Rattle.c11_lexer.specs.declared.token.TokenKind.TheVariants as k
use Rattle.c11_lexer.specs.declared.token.Token.{Token}
use Rattle.c11_lexer.specs.declared.token.LexFault.{LexFault}
use Rattle.c11_lexer.specs.declared.token.LexFault.TheVariants as f
use Rattle.c11_lexer.specs.Pieces.{Text, run, is_inline, Longest}
use Rattle.c11_lexer.specs.Numbers.{IsLiteral}
use Rattle.c11_lexer.specs.Directives.{IsWord, IsDirective, NoDirective}

-- ---- places

abbrev pub start : Cursor
start = record { line = 1; column = 1; offset = 0; token_line = 0 }

-- after a byte: a line feed ends the line
abbrev pub after_byte : Cursor → ℕ → Cursor
after_byte at b = if b == 10 then record at { line = at.line + 1; column = 1; offset = at.offset + 1 }
    else record at { column = at.column + 1; offset = at.offset + 1 }

unfoldable pub advance : Cursor → Text → Cursor
advance at [] = at
advance at (b ∷ t) = advance (after_byte at b) t

-- after a token, which is then the last one
abbrev pub past : Cursor → Text → Cursor
past at t = record (advance at t) { token_line = at.line }

-- ---- the piece at a place

-- the bytes before the next line feed
abbrev pub line_of : Text → Text
line_of t = take (run is_inline t) t

-- The text begins with a `#`, and no token stands before it on its line.
abbrev pub leads : Cursor → Text → Bool
leads at [] = false
leads at (b ∷ t) = b == 35 && nat_lt at.token_line at.line

-- The first n bytes are this piece: the longest, or the first of a directive.
pub data Front (at : Cursor) (t : Text) : ℕ → Piece → Type 0 where
  plain : {n : ℕ} {piece : Piece} → leads at t ≡ false → Longest t n piece → Front at t n piece
  directive : {n : ℕ} {piece : Piece} → leads at t ≡ true → IsDirective (line_of t) n piece → Front at t n piece
  no_directive : leads at t ≡ true → NoDirective (line_of t) → Front at t 1 p.NoDirective

-- What a piece with these bytes gives.
pub data Means (at : Cursor) : Piece → Text → Outcome → Type 0 where
  blank : {t : Text} → Means at p.Blank t o.Gap
  line_comment : {t : Text} → Means at p.LineComment t o.Gap
  comment : {t : Text} → Means at p.Comment t o.Gap
  open_comment : {t : Text} → Means at p.OpenComment t (o.Fault (f.Comment at.line at.column))
  word : {t : Text} → IsWord t → Means at p.Run t (o.Token k.Word)
  literal : {t : Text} {value : TypedNumber} → IsLiteral t value → Means at p.Run t (o.Token (k.Literal value))
  neither : {t : Text} → (IsWord t → ⊥) → ((value : TypedNumber) → IsLiteral t value → ⊥) → Means at p.Run t (o.Fault (f.Literal at.line at.column))
  mark : {t : Text} → Means at p.Mark t (o.Token k.Mark)
  text : {t value : Text} → Means at (p.Text value) t (o.Token (k.Text value))
  open_text : {t : Text} → Means at p.OpenText t (o.Fault (f.Literal at.line at.column))
  stray : {t : Text} → Means at p.Stray t (o.Fault (f.Byte at.line at.column))
  include : {t : Text} → Means at p.Include t (o.Token k.Include)
  define : {t : Text} → Means at p.Define t (o.Token k.Define)
  no_directive : {t : Text} → Means at p.NoDirective t (o.Fault (f.Directive at.line at.column))

-- ---- the whole text

-- a token of these bytes at this place
abbrev pub token_at : Cursor → TokenKind → Text → Token
token_at at kind t = record { kind = kind; line = at.line; column = at.column; start = at.offset; end = at.offset + length t }

abbrev pub Scanned : Type 0
Scanned = Result (List Token) LexFault

-- a token before the others, where there is no fault
abbrev pub before : Token → Scanned → Scanned
before token (Ok tokens) = Ok (token ∷ tokens)
before token (Err fault) = Err fault

-- From a place on the text gives these tokens or this fault.
pub data Scans : Cursor → Text → Scanned → Type 0 where
  end : {at : Cursor} → Scans at [] (Ok [])
  gap : {at : Cursor} {t : Text} {n : ℕ} {piece : Piece} {scanned : Scanned} → Front at t n piece → Means at piece (take n t) o.Gap
      → Scans (advance at (take n t)) (drop n t) scanned → Scans at t scanned
  token : {at : Cursor} {t : Text} {n : ℕ} {piece : Piece} {kind : TokenKind} {scanned : Scanned} → Front at t n piece → Means at piece (take n t) (o.Token kind)
      → Scans (past at (take n t)) (drop n t) scanned → Scans at t (before (token_at at kind (take n t)) scanned)
  fault : {at : Cursor} {t : Text} {n : ℕ} {piece : Piece} {fault : LexFault} → Front at t n piece → Means at piece (take n t) (o.Fault fault)
      → Scans at t (Err fault)

-- the tokens of a text, or its first fault
abbrev pub Scan : Text → Scanned → Type 0
Scan = Scans start

-- ---- laws

-- A text has one Scan at most: its tokens or its fault, never both, never two.
abbrev pub OneScan : Type 0
OneScan = (text : Text) (one other : Scanned) → Scan text one → Scan text other → one ≡ other

-- Each text has a Scan.
abbrev pub SomeScan : Type 0
SomeScan = (text : Text) → (scanned : Scanned) × Scan text scanned

-- The tokens' slices rise, and lie between these two places.
pub data Rise : ℕ → List Token → ℕ → Type 0 where
  none : {from last : ℕ} → from ≤ last → Rise from [] last
  more : {from last : ℕ} {token : Token} {tokens : List Token} → from ≤ token.start → token.start < token.end → Rise token.end tokens last
      → Rise from (token ∷ tokens) last

abbrev pub SlicesRise : Type 0
SlicesRise = (text : Text) (tokens : List Token) → Scan text (Ok tokens) → Rise 0 tokens (length text)

-- No slice that rises is empty.
abbrev pub SlicesAreSome : Type 0
SlicesAreSome = (from last : ℕ) (tokens : List Token) → Rise from tokens last → All (λ (token : Token). token.start < token.end) tokens

-- ---- one step of the code

-- tokens that were found before, in front of what the rest gives
abbrev pub prefixed : List Token → Scanned → Scanned
prefixed tokens (Ok others) = Ok (tokens ++ others)
prefixed tokens (Err error) = Err error

-- One piece of n bytes leads from some tokens and a place to these.
pub data Steps (at : Cursor) (t : Text) (n : ℕ) (old : List Token) : List Token → Cursor → Type 0 where
  gap : {piece : Piece} → Front at t n piece → Means at piece (take n t) o.Gap → Steps at t n old old (advance at (take n t))
  token : {piece : Piece} {kind : TokenKind} → Front at t n piece → Means at piece (take n t) (o.Token kind)
      → Steps at t n old (old ++ token_at at kind (take n t) ∷ []) (past at (take n t))

-- how far a step moved
pub record Moves (at : Cursor) (t : Text) (n : ℕ) (next : Cursor) : Type 0 where
  pub some : 0 < n
  pub within : n ≤ length t
  pub line : next.line ≤ at.line + n
  pub column : next.column ≤ at.column + n
  pub offset : next.offset ≡ at.offset + n

-- The piece here is this fault.
pub data FaultsAt (at : Cursor) (t : Text) (fault : LexFault) : Type 0 where
  faulty : {n : ℕ} {piece : Piece} → Front at t n piece → Means at piece (take n t) (o.Fault fault) → FaultsAt at t fault
