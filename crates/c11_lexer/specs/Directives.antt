-- Lines that are directives (ISO/IEC 9899:2011, 6.10.2 and 6.10.3).
use Rattle.std.specs.Prelude.{◌≡◌, ◌≤◌, ℕ, suc, ◌+◌, Bool, true, false, not, ◌==◌, [], ◌∷◌, length, take, drop, codes, ◌⊎◌}
use Rattle.std.specs.Char.{is_ascii_digit}
use Rattle.c11_lexer.specs.declared.piece.Piece.{Piece}
use Rattle.c11_lexer.specs.declared.piece.Piece.TheVariants as p
use Rattle.c11_lexer.specs.Pieces.{Text, run, is_word, Longest}
use Rattle.c11_lexer.specs.Numbers.{SpellsNumber}

-- blanks and comments; a comment that is not closed on its line counts there
abbrev pub is_space : Piece → Bool
is_space p.Blank = true
is_space p.LineComment = true
is_space p.Comment = true
is_space p.OpenComment = true
is_space p.Run = false
is_space p.Mark = false
is_space (p.Text value) = false
is_space p.OpenText = false
is_space p.Stray = false
is_space p.Include = false
is_space p.Define = false
is_space p.NoDirective = false

-- some blanks and comments at the front, and what is left after them
pub data Skips : Text → Text → Type 0 where
  done : {t : Text} → Skips t t
  more : {t rest : Text} {n : ℕ} {piece : Piece} → Longest t n piece → is_space piece ≡ true → Skips (drop n t) rest → Skips t rest

-- all the letters, digits and `_` at the front
abbrev pub first_run : Text → Text
first_run t = take (run is_word t) t

-- what stands after them
abbrev pub after_run : Text → Text
after_run t = drop (run is_word t) t

-- a run that begins with no digit and has at most 127 bytes
pub data IsWord : Text → Type 0 where
  word : {b : ℕ} {t : Text} → is_ascii_digit b ≡ false → suc (length t) ≤ 127 → IsWord (b ∷ t)

-- `<` and the name of a header
abbrev pub IsHeader : Text → Type 0
IsHeader t = (t ≡ codes "<stdatomic.h") ⊎ (t ≡ codes "<threads.h") ⊎ (t ≡ codes "<stdio.h") ⊎ (t ≡ codes "<assert.h")

-- what stands before a `>`
unfoldable pub is_inside : ℕ → Bool
is_inside b = not (b == 62)

-- what stands after `include` is a header in angle brackets, and after the `>` nothing else stands on the line
pub data Included : Text → Text → Type 0 where
  included : {t a rest : Text} → Skips t a → IsHeader (take (run is_inside a) a) → drop (run is_inside a) a ≡ 62 ∷ rest → Skips rest [] → Included t rest

-- what stands after `define` is a word and a number, and nothing else
pub data Defined : Text → Type 0 where
  defined : {t a b : Text} → Skips t a → IsWord (first_run a) → Skips (after_run a) b → SpellsNumber (first_run b) → Skips (after_run b) [] → Defined t

-- The line is a directive, whose first n bytes are its first token.
pub data IsDirective : Text → ℕ → Piece → Type 0 where
  include : {t a rest : Text} {n : ℕ} → Skips t a → first_run a ≡ codes "include" → Included (after_run a) rest → n + length rest ≡ suc (length t)
      → IsDirective (35 ∷ t) n p.Include
  define : {t a : Text} {n : ℕ} → Skips t a → first_run a ≡ codes "define" → Defined (after_run a) → n + length (after_run a) ≡ suc (length t)
      → IsDirective (35 ∷ t) n p.Define

abbrev pub NoDirective : Text → Type 0
NoDirective line = (n : ℕ) (piece : Piece) → IsDirective line n piece → ⊥

-- ---- how they are found

-- blanks and comments end here
abbrev pub Stops : Text → Type 0
Stops t = (n : ℕ) (piece : Piece) → Longest t n piece → is_space piece ≡ true → ⊥

pub record SkipsTo (t rest : Text) : Type 0 where
  pub skips : Skips t rest
  pub stops : Stops rest
