-- What the bytes at one place of a text may be, and the longest of it (ISO/IEC 9899:2011, 6.4).
use Rattle.std.specs.Prelude.{◌≡◌, ◌≤◌, ◌<◌, ℕ, suc, Bool, true, not, ◌&&◌, ◌||◌, if◌then◌else◌, ◌==◌, nat_le, List, [], ◌∷◌, ◌++◌, length, take, Option, Some, None, codes}
use Rattle.std.specs.List.{list_any}
use Rattle.std.specs.Char.{is_ascii_alphanumeric}
use Rattle.c11_lexer.specs.declared.piece.Class.{Class}
use Rattle.c11_lexer.specs.declared.piece.Class.TheVariants as c
use Rattle.c11_lexer.specs.declared.piece.Piece.{Piece}
use Rattle.c11_lexer.specs.declared.piece.Piece.TheVariants as p

abbrev pub Text : Type 0
Text = List ℕ

-- each byte passes the test
pub data Every (test : ℕ → Bool) : Text → Type 0 where
  none : Every test []
  more : {b : ℕ} {t : Text} → test b ≡ true → Every test t → Every test (b ∷ t)

-- how many bytes at the front pass the test
unfoldable pub run : (ℕ → Bool) → Text → ℕ
run test [] = 0
run test (b ∷ t) = if test b then suc (run test t) else 0

-- ---- bytes

-- space, tab, line feed, vertical tab, form feed and carriage return
unfoldable pub is_blank : ℕ → Bool
is_blank b = b == 32 || (nat_le 9 b && nat_le b 13)

-- a letter, a digit or `_`
unfoldable pub is_word : ℕ → Bool
is_word b = is_ascii_alphanumeric b || b == 95

-- what may stand on a line
unfoldable pub is_inline : ℕ → Bool
is_inline b = not (b == 10)

-- the marks of one byte
unfoldable pub is_mark : ℕ → Bool
is_mark b = list_any (λ x. x == b) (codes "+-*/%&|^~!<>=?:;,()[]{}")

-- those that make another mark when they are doubled: `<< >> && || ++ -- ==`
unfoldable pub is_doubled : ℕ → Bool
is_doubled b = list_any (λ x. x == b) (codes "<>&|+-=")

-- those that make another mark with a `=`: `<= >= == != += -= *= /= %= &= |= ^=`
unfoldable pub takes_equals : ℕ → Bool
takes_equals b = list_any (λ x. x == b) (codes "<>=!+-*/%&|^")

-- those that make another mark when they are doubled and a `=` follows: `<<= >>=`
unfoldable pub is_shift : ℕ → Bool
is_shift b = list_any (λ x. x == b) (codes "<>")

-- what a byte begins
unfoldable pub class : ℕ → Class
class b =
    if is_blank b then c.Blank
    else (if is_word b then c.Run
    else (if b == 34 then c.Quote
    else (if b == 47 then c.Slash
    else (if is_mark b then c.Mark else c.Other))))

-- ---- marks, comments and texts

pub data IsMark : Text → Type 0 where
  single : {b : ℕ} → is_mark b ≡ true → IsMark (b ∷ [])
  doubled : {b : ℕ} → is_doubled b ≡ true → IsMark (b ∷ b ∷ [])
  with_equals : {b : ℕ} → takes_equals b ≡ true → IsMark (b ∷ 61 ∷ [])
  shift_equals : {b : ℕ} → is_shift b ≡ true → IsMark (b ∷ b ∷ 61 ∷ [])

-- `*/` stands nowhere in it
pub data NoClose : Text → Type 0 where
  none : NoClose []
  one : {b : ℕ} → NoClose (b ∷ [])
  more : {b d : ℕ} {t : Text} → (b ≡ 42 → d ≡ 47 → ⊥) → NoClose (d ∷ t) → NoClose (b ∷ d ∷ t)

-- a printable byte that stands for itself in a text: neither `"` nor `\`
unfoldable pub is_plain : ℕ → Bool
is_plain b = (nat_le 32 b && nat_le b 126) && not (b == 34 || b == 92)

-- the byte that `\` with this byte stands for: `\n`, `\t`, `\\` and `\"`
unfoldable pub escaped : ℕ → Option ℕ
escaped b =
    if b == 110 then Some 10
    else (if b == 116 then Some 9
    else (if b == 92 then Some 92
    else (if b == 34 then Some 34 else None)))

-- The bytes after an opening `"`, up to and with the closing one, stand for these bytes.
pub data Quoted : Text → Text → Type 0 where
  closes : Quoted (34 ∷ []) []
  plain : {b : ℕ} {t value : Text} → is_plain b ≡ true → Quoted t value → Quoted (b ∷ t) (b ∷ value)
  escape : {b d : ℕ} {t value : Text} → escaped b ≡ Some d → Quoted t value → Quoted (92 ∷ b ∷ t) (d ∷ value)

-- What stands after a `"` begins with no text of at most 256 bytes.
abbrev pub NoText : Text → Type 0
NoText t = (k : ℕ) (value : Text) → k ≤ length t → Quoted (take k t) value → length value ≤ 256 → ⊥

-- ---- pieces

-- The bytes are this piece, one case for each kind.
pub data IsPiece : Text → Piece → Type 0 where
  blank : {b : ℕ} → class b ≡ c.Blank → IsPiece (b ∷ []) p.Blank
  -- a run of letters, digits and `_`: a word, a number, or neither
  word_run : {b : ℕ} {t : Text} → class b ≡ c.Run → Every is_word t → IsPiece (b ∷ t) p.Run
  mark : {t : Text} → IsMark t → IsPiece t p.Mark
  line_comment : {t : Text} → Every is_inline t → IsPiece (47 ∷ 47 ∷ t) p.LineComment
  -- it ends at the first `*/`
  comment : {t : Text} → (body : Text) → NoClose (body ++ 42 ∷ []) → t ≡ 47 ∷ 42 ∷ body ++ 42 ∷ 47 ∷ [] → IsPiece t p.Comment
  open_comment : {t : Text} → (body : Text) → NoClose body → t ≡ 47 ∷ 42 ∷ body → IsPiece t p.OpenComment
  text : {t value : Text} → Quoted t value → length value ≤ 256 → IsPiece (34 ∷ t) (p.Text value)
  open_text : {t : Text} → NoText t → IsPiece (34 ∷ t) p.OpenText
  -- a byte that begins nothing else
  stray : {b : ℕ} → class b ≡ c.Other → IsPiece (b ∷ []) p.Stray

-- The first n bytes are this piece, and no longer front of the text is a piece.
pub record Longest (text : Text) (n : ℕ) (piece : Piece) : Type 0 where
  pub within : n ≤ length text
  pub some : 0 < n
  pub is : IsPiece (take n text) piece
  pub longest : (k : ℕ) (other : Piece) → k ≤ length text → IsPiece (take k text) other → k ≤ n

-- Each text that is not empty begins with a longest piece, and with one alone.
abbrev pub SomeLongest : Type 0
SomeLongest = (text : Text) → 0 < length text → (n : ℕ) × (piece : Piece) × Longest text n piece

pub record SamePiece (n k : ℕ) (one other : Piece) : Type 0 where
  pub length_is : n ≡ k
  pub piece_is : one ≡ other

abbrev pub OneLongest : Type 0
OneLongest = (text : Text) (n k : ℕ) (one other : Piece) → Longest text n one → Longest text k other → SamePiece n k one other
