-- Texts as lists of parts: blanks, words, numbers and marks, each of which is one piece of the text.
use Rattle.std.proofs.Common.{◌<◌, ℕ, suc, ◌==◌, nat_le, ◌&&◌, ◌||◌, not, Bool, true, false, List, [], ◌∷◌, ◌++◌, length, Option, Some, None, pos}
use Rattle.std.specs.List.{list_all}
use Rattle.std.specs.Fmt.{decimal}
use Rattle.std.specs.Char.{is_ascii_digit}
use Rattle.c11_num.specs.declared.value.CType.TheVariants as c
use Rattle.c11_lexer.specs.declared.token.TokenKind.TheVariants as k
use Rattle.c11_lexer.specs.declared.piece.Class.{Class}
use Rattle.c11_lexer.specs.declared.piece.Class.TheVariants as class
use Rattle.c11_lexer.specs.Pieces.{Text, is_word, is_doubled, takes_equals, is_shift}
use Rattle.c11_lexer.specs.Pieces as pieces
use Rattle.c11_lexer.specs.Reading.{is_pair, is_triple}
use Rattle.c11_grammar.specs.declared.token.Sort.{Sort}
use Rattle.c11_grammar.specs.declared.token.Sort.TheVariants as sort
use Rattle.c11_parser.specs.Sorting.{sort_of}

pub data Part : Type 0 where
  -- a blank
  gap : ℕ → Part
  word : Text → Part
  number : ℕ → Part
  sign : Text → Part
  -- the text of `%d` and a line feed
  format : Part

-- ---- what a part spells, and what it is to the grammar

abbrev pub spelling_of : Part → Text
spelling_of (gap b) = b ∷ []
spelling_of (word t) = t
spelling_of (number n) = decimal n
spelling_of (sign t) = t
spelling_of format = 34 ∷ 37 ∷ 100 ∷ 92 ∷ 110 ∷ 34 ∷ []

abbrev pub spelling : List Part → Text
spelling [] = []
spelling (part ∷ parts) = spelling_of part ++ spelling parts

-- a literal of type int
abbrev pub literal : ℕ → Sort
literal n = sort.Literal (record { ctype = c.Int; number = pos n })

abbrev pub sorts_with : Part → List Sort → List Sort
sorts_with (gap b) sorts = sorts
sorts_with (word t) sorts = sort_of k.Word t ∷ sorts
sorts_with (number n) sorts = literal n ∷ sorts
sorts_with (sign t) sorts = sort_of k.Mark t ∷ sorts
sorts_with format sorts = sort.Text (37 ∷ 100 ∷ 10 ∷ []) ∷ sorts

-- the sorts of the parts, before others
abbrev pub sorts_of : List Part → List Sort → List Sort
sorts_of [] sorts = sorts
sorts_of (part ∷ parts) sorts = sorts_with part (sorts_of parts sorts)

-- ---- numbers are small

abbrev pub IsSmall : Part → Type 0
IsSmall (gap b) = Unit {0}
IsSmall (word t) = Unit {0}
IsSmall (number n) = n < 1000
IsSmall (sign t) = Unit {0}
IsSmall format = Unit {0}

-- the part is small, and the rest holds
abbrev pub SmallThen : Part → Type 0 → Type 0
SmallThen (gap b) Rest = Rest
SmallThen (word t) Rest = Rest
SmallThen (number n) Rest = (n < 1000) × Rest
SmallThen (sign t) Rest = Rest
SmallThen format Rest = Rest

-- each number is below 1000
abbrev pub AreSmall : List Part → Type 0
AreSmall [] = Unit {0}
AreSmall (part ∷ parts) = SmallThen part (AreSmall parts)

-- ---- each part is a piece of its own where the next byte is known

abbrev pub first_of : Part → Option ℕ
first_of (gap b) = Some b
first_of (word []) = None
first_of (word (b ∷ t)) = Some b
first_of (number n) = None
first_of (sign []) = None
first_of (sign (b ∷ t)) = Some b
first_of format = Some 34

abbrev pub next_of : List Part → Option ℕ
next_of [] = None
next_of (part ∷ parts) = first_of part

abbrev pub is_blank_class : Class → Bool
is_blank_class class.Blank = true
is_blank_class class.Run = false
is_blank_class class.Quote = false
is_blank_class class.Slash = false
is_blank_class class.Mark = false
is_blank_class class.Other = false

abbrev pub is_run_class : Class → Bool
is_run_class class.Blank = false
is_run_class class.Run = true
is_run_class class.Quote = false
is_run_class class.Slash = false
is_run_class class.Mark = false
is_run_class class.Other = false

abbrev pub is_mark_class : Class → Bool
is_mark_class class.Blank = false
is_mark_class class.Run = false
is_mark_class class.Quote = false
is_mark_class class.Slash = false
is_mark_class class.Mark = true
is_mark_class class.Other = false

-- a word ends before this byte
abbrev pub ends_word : Option ℕ → Bool
ends_word None = false
ends_word (Some d) = not (is_word d)

-- no byte makes another mark of this one
abbrev pub is_closed : ℕ → Bool
is_closed b = not (is_doubled b) && (not (takes_equals b) && not (is_shift b))

-- a mark of one byte ends before this byte
abbrev pub ends_mark : ℕ → Option ℕ → Bool
ends_mark b None = is_closed b
ends_mark b (Some d) = is_closed b || (not (d == b) && not (is_pair b d))

-- a mark of two bytes ends before this byte
abbrev pub ends_pair : ℕ → ℕ → Option ℕ → Bool
ends_pair b d None = false
ends_pair b d (Some e) = is_pair b d && not (is_triple b d e)

abbrev pub fits_sign : Text → Option ℕ → Bool
fits_sign [] next = false
fits_sign (b ∷ []) next = is_mark_class (pieces.class b) && ends_mark b next
fits_sign (b ∷ d ∷ []) next = is_mark_class (pieces.class b) && ends_pair b d next
fits_sign (b ∷ d ∷ e ∷ t) next = false

abbrev pub fits_word : Text → Option ℕ → Bool
fits_word [] next = false
fits_word (b ∷ t) next = (is_word b && not (is_ascii_digit b)) && (list_all is_word t && (nat_le (suc (length t)) 127 && ends_word next))

abbrev pub fits_part : Part → Option ℕ → Bool
fits_part (gap b) next = is_blank_class (pieces.class b)
fits_part (word t) next = fits_word t next
fits_part (number n) next = ends_word next
fits_part (sign t) next = fits_sign t next
fits_part format next = true

-- each part ends where it does, whatever follows the last
abbrev pub fits : List Part → Bool
fits [] = true
fits (part ∷ parts) = fits_part part (next_of parts) && fits parts
