-- The text of a refusal, as a list of bytes.
use Rattle.std.specs.Prelude.{ℕ, ◌≡◌, Bool, true, false, List, [], ◌∷◌, ◌++◌, Option, Some, None, codes}
use Rattle.std.specs.Fmt.{decimal}
use Rattle.c11_report.specs.declared.refusal.RefusalWord.{RefusalWord}
use Rattle.c11_report.specs.declared.refusal.RefusalWord.TheVariants.{Byte, Literal, Comment, Directive, Item, Unknown, Twice, Kind, Arguments, Order, NoMain, Size, TooMany, Typing, Long}
use Rattle.c11_report.specs.declared.refusal.Refusal.{Refusal}

abbrev pub word_bytes : RefusalWord → List ℕ
word_bytes Byte = codes "byte"
word_bytes Literal = codes "literal"
word_bytes Comment = codes "comment"
word_bytes Directive = codes "directive"
word_bytes Item = codes "item"
word_bytes Unknown = codes "unknown"
word_bytes Twice = codes "twice"
word_bytes Kind = codes "kind"
word_bytes Arguments = codes "arguments"
word_bytes Order = codes "order"
word_bytes NoMain = codes "nomain"
word_bytes Size = codes "size"
word_bytes TooMany = codes "toomany"
word_bytes Typing = codes "type"
word_bytes Long = codes "long"

-- whether the text of the word has a place
abbrev pub has_place : RefusalWord → Bool
has_place Long = false
has_place _ = true

-- a line and a column
abbrev pub place_bytes : Option (ℕ × ℕ) → List ℕ
place_bytes None = []
place_bytes (Some place) = codes " " ++ decimal place.0 ++ codes " " ++ decimal place.1

-- why a text is refused, and where
abbrev pub refusal_bytes : Refusal → List ℕ
refusal_bytes refusal = codes "refused " ++ word_bytes refusal.word ++ place_bytes refusal.place ++ 10 ∷ []

abbrev pub HasSome : Option (ℕ × ℕ) → Type 0
HasSome place = (line column : ℕ) × (place ≡ Some (line, column))
