-- How the pieces are found: functions that the code's private contracts cite.
use Rattle.std.specs.Prelude.{◌≡◌, ◌<◌, ℕ, suc, ◌+◌, ◌-◌, Bool, true, false, ◌&&◌, ◌||◌, if◌then◌else◌, ◌==◌, nat_le, [], ◌∷◌, ◌++◌, length, take, drop, Option, Some, None, option_map}
use Rattle.c11_lexer.specs.declared.piece.Class.{Class}
use Rattle.c11_lexer.specs.declared.piece.Class.TheVariants as c
use Rattle.c11_lexer.specs.declared.piece.Piece.{Piece}
use Rattle.c11_lexer.specs.declared.piece.Piece.TheVariants as p
use Rattle.c11_lexer.specs.declared.number.Base.{Base}
use Rattle.c11_lexer.specs.declared.number.Base.TheVariants as b
use Rattle.c11_lexer.specs.declared.number.Suffix.{Suffix}
use Rattle.c11_lexer.specs.Numbers.{is_digit_of, suffix_of}
use Rattle.c11_lexer.specs.Pieces.{Text, run, is_word, is_inline, is_doubled, takes_equals, is_shift, class, is_plain, escaped}

abbrev pub one_on : Option ℕ → Option ℕ
one_on None = None
one_on (Some n) = Some (suc n)

unfoldable pub close_at : ℕ → Text → Option ℕ
close_at b [] = None
close_at b (d ∷ t) = if b == 42 && d == 47 then Some 2 else one_on (close_at d t)

-- how many bytes there are up to and with the first `*/`
unfoldable pub close : Text → Option ℕ
close [] = None
close (b ∷ t) = close_at b t

abbrev pub is_pair : ℕ → ℕ → Bool
is_pair b d = (d == b && is_doubled b) || (d == 61 && takes_equals b)

abbrev pub is_triple : ℕ → ℕ → ℕ → Bool
is_triple b d e = (d == b && e == 61) && is_shift b

-- how many bytes the longest mark has that begins with b
unfoldable pub mark_len : ℕ → Text → ℕ
mark_len b [] = 1
mark_len b (d ∷ []) = if is_pair b d then 2 else 1
mark_len b (d ∷ e ∷ t) = if is_triple b d e then 3 else (if is_pair b d then 2 else 1)

abbrev pub commented : Option ℕ → Text → Piece × ℕ
commented (Some n) t = (p.Comment, n + 2)
commented None t = (p.OpenComment, length t + 2)

-- what a `/` begins
unfoldable pub after_slash : Text → Piece × ℕ
after_slash [] = (p.Mark, 1)
after_slash (d ∷ t) =
    if d == 42 then commented (close t) t
    else (if d == 47 then (p.LineComment, run is_inline t + 2)
    else (if d == 61 then (p.Mark, 2) else (p.Mark, 1)))

-- one more byte of a text
abbrev pub onto : ℕ → Option (Text × ℕ) → Option (Text × ℕ)
onto b None = None
onto b (Some found) = Some (b ∷ found.0, suc found.1)

abbrev pub onto_escape : Option ℕ → Option (Text × ℕ) → Option (Text × ℕ)
onto_escape None found = None
onto_escape (Some d) found = onto d found

-- one more byte of the source, which stands for nothing itself
abbrev pub skipping : Option (Text × ℕ) → Option (Text × ℕ)
skipping None = None
skipping (Some found) = Some (found.0, suc found.1)

-- The bytes that a text stands for, and how many bytes it takes; the flag says that a `\` stands before.
unfoldable pub quoted_from : Bool → Text → Option (Text × ℕ)
quoted_from slash [] = None
quoted_from true (b ∷ t) = onto_escape (escaped b) (quoted_from false t)
quoted_from false (b ∷ t) =
    if b == 34 then Some ([], 1)
    else (if b == 92 then skipping (quoted_from true t)
    else (if is_plain b then onto b (quoted_from false t) else None))

abbrev pub quoted : Text → Option (Text × ℕ)
quoted = quoted_from false

-- after these bytes, which take n bytes of the source
abbrev pub ahead_of : Text → ℕ → Option (Text × ℕ) → Option (Text × ℕ)
ahead_of value n None = None
ahead_of value n (Some found) = Some (value ++ found.0, n + found.1)

-- The front stands for this byte, and the rest follows it.
abbrev pub IsPart : Text → Option (ℕ × Text) → Type 0
IsPart t None = quoted t ≡ None
IsPart t (Some part) = (quoted t ≡ ahead_of (part.0 ∷ []) (length t - length part.1) (quoted part.1)) × (length part.1 < length t)

abbrev pub sized : Option (Text × ℕ) → Text → Piece × ℕ
sized None t = (p.OpenText, length t + 1)
sized (Some found) t = if nat_le (length found.0) 256 then (p.Text found.0, found.1 + 1) else (p.OpenText, length t + 1)

abbrev pub by_class : Class → ℕ → Text → Piece × ℕ
by_class c.Blank b t = (p.Blank, 1)
by_class c.Run b t = (p.Run, run is_word t + 1)
by_class c.Quote b t = sized (quoted t) t
by_class c.Slash b t = after_slash t
by_class c.Mark b t = (p.Mark, mark_len b t)
by_class c.Other b t = (p.Stray, 1)

-- the longest piece, and its length
unfoldable pub front : Text → Piece × ℕ
front [] = (p.Stray, 0)
front (b ∷ t) = by_class (class b) b t

-- the digits at the front and the suffix after them
abbrev pub spelled : Base → Text → Option (Text × Suffix)
spelled base t = option_map (λ suffix. (take (run (is_digit_of base) t) t, suffix)) (suffix_of (drop (run (is_digit_of base) t) t))

abbrev pub based : Base → Option (Text × Suffix) → Option (Base × Text × Suffix)
based base None = None
based base (Some found) = Some (base, found.0, found.1)

-- a number of hexadecimal digits has one at least
abbrev pub hexed : Option (Text × Suffix) → Option (Base × Text × Suffix)
hexed None = None
hexed (Some found) = if length found.0 == 0 then None else Some (b.Hexadecimal, found.0, found.1)

unfoldable pub after_zero : Text → Option (Base × Text × Suffix)
after_zero [] = based b.Octal (spelled b.Octal [])
after_zero (d ∷ t) = if d == 120 || d == 88 then hexed (spelled b.Hexadecimal t) else based b.Octal (spelled b.Octal (d ∷ t))

-- the base, the digits and the suffix of a number
unfoldable pub number_of : Text → Option (Base × Text × Suffix)
number_of [] = None
number_of (d ∷ t) = if d == 48 then after_zero t else (if is_digit_of b.Decimal d then based b.Decimal (spelled b.Decimal (d ∷ t)) else None)
