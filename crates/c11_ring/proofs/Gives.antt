-- What a text gives wherever it stands: tokens of these sorts.
use Rattle.std.proofs.Common.{◌≡◌, ◌≤◌, ◌<◌, ℕ, zero, suc, ◌+◌, ◌-◌, ◌==◌, Bool, true, false, List, [], ◌∷◌, length, take, drop, map, Ok, if◌then◌else◌, refl, sym, ap, subst, ◌∙◌, arith, zero-add}
use Rattle.std.proofs.lemmas.List.{length-take-le}
use Rattle.c11_lexer.specs.declared.piece.Piece.{Piece}
use Rattle.c11_lexer.specs.declared.cursor.Cursor.{Cursor}
use Rattle.c11_lexer.specs.declared.scan.Outcome.TheVariants as o
use Rattle.c11_lexer.specs.declared.token.TokenKind.{TokenKind}
use Rattle.c11_lexer.specs.declared.token.Token.{Token}
use Rattle.c11_lexer.specs.Pieces.{Text}
use Rattle.c11_lexer.specs.Scan.{after_byte, advance, past, leads, Front, Means, token_at, Scans}
use Rattle.c11_lexer.specs.Scan as s
use Rattle.c11_grammar.specs.declared.token.Sort.{Sort}
use Rattle.c11_grammar.specs.declared.token.Lexeme.{Lexeme}
use Rattle.c11_parser.specs.Sorting.{sort_of, lexemes}

-- The text, which is what is left of the source here, has tokens of these sorts.
pub record Given (at : Cursor) (source t : Text) (sorts : List Sort) : Type 0 where
  pub tokens : List Token
  pub scans : Scans at t (Ok tokens)
  pub sorts_are : map (λ (x : Lexeme). x.sort) (lexemes source tokens) ≡ sorts

-- wherever it stands
abbrev pub Gives : Text → List Sort → Type 0
Gives t sorts = (at : Cursor) (source : Text) → drop at.offset source ≡ t → Given at source t sorts

-- wherever it stands first on its line
abbrev pub GivesFirst : Text → List Sort → Type 0
GivesFirst t sorts = (at : Cursor) (source : Text) → at.token_line < at.line → drop at.offset source ≡ t → Given at source t sorts

pub nothing_gives : Gives [] []
nothing_gives at source e = record { tokens = []; scans = s.Scans.end; sorts_are = refl }

-- ---- places

drop_none : (m : ℕ) → drop {A = ℕ} m [] ≡ []
drop_none zero = refl
drop_none (suc m) = refl

drop_more : (a n : ℕ) (t : Text) → drop (a + n) t ≡ drop n (drop a t)
drop_more zero n [] = ap (λ (m : ℕ). drop {A = ℕ} m []) (zero-add n)
drop_more zero n (x ∷ t) = ap (λ (m : ℕ). drop m (x ∷ t)) (zero-add n)
drop_more (suc a) n [] = drop_none (suc a + n) ∙ sym (drop_none n)
drop_more (suc a) n (x ∷ t) = let next : suc a + n ≡ suc (a + n) = omega arith in ap (λ (m : ℕ). drop m (x ∷ t)) next ∙ drop_more a n t

byte_offset : (at : Cursor) (b : ℕ) → (after_byte at b).offset ≡ at.offset + 1
byte_offset at b = by_test (b == 10)
  where
    by_test : (x : Bool) → (if x then record at { line = at.line + 1; column = 1; offset = at.offset + 1 } else record at { column = at.column + 1; offset = at.offset + 1 }).offset ≡ at.offset + 1
    by_test true = refl
    by_test false = refl

advance_offset : (at : Cursor) (t : Text) → (advance at t).offset ≡ at.offset + length t
unfolding advance
advance_offset at [] = omega arith
advance_offset at (b ∷ t) = omega (arith, byte_offset at b, advance_offset (after_byte at b) t)

left_after : (at next : Cursor) (source t rest : Text) (n : ℕ) → n ≤ length t → next.offset ≡ at.offset + length (take n t) → drop n t ≡ rest → drop at.offset source ≡ t → drop next.offset source ≡ rest
left_after at next source t rest n within offset e f =
    let moved : next.offset ≡ at.offset + n = omega (arith, offset, length-take-le n t within) in
    ap (λ (m : ℕ). drop m source) moved ∙ drop_more at.offset n source ∙ ap (drop n) f ∙ e

-- ---- one piece more

pub skips : (t rest : Text) (n : ℕ) (piece : Piece) (sorts : List Sort) (at : Cursor) (source : Text) → Front at t n piece → n ≤ length t → Means at piece (take n t) o.Gap
    → drop n t ≡ rest → drop at.offset source ≡ t → (drop (advance at (take n t)).offset source ≡ rest → Given (advance at (take n t)) source rest sorts)
    → Given at source t sorts
skips t rest n piece sorts at source front within means e f more =
    let given = more (left_after at (advance at (take n t)) source t rest n within (advance_offset at (take n t)) e f) in record {
      tokens = given.tokens;
      scans = s.Scans.gap front means (subst (λ (u : Text). Scans (advance at (take n t)) u (Ok given.tokens)) (sym e) given.scans);
      sorts_are = given.sorts_are;
    }

pub takes : (t rest : Text) (n : ℕ) (piece : Piece) (kind : TokenKind) (sorts : List Sort) (at : Cursor) (source : Text) → Front at t n piece → n ≤ length t
    → Means at piece (take n t) (o.Token kind) → drop n t ≡ rest → drop at.offset source ≡ t
    → (drop (past at (take n t)).offset source ≡ rest → Given (past at (take n t)) source rest sorts) → Given at source t (sort_of kind (take n t) ∷ sorts)
takes t rest n piece kind sorts at source front within means e f more =
    let u : Text = take n t in
    let given = more (left_after at (past at u) source t rest n within (advance_offset at u) e f) in record {
      tokens = token_at at kind u ∷ given.tokens;
      scans = s.Scans.token front means (subst (λ (v : Text). Scans (past at u) v (Ok given.tokens)) (sym e) given.scans);
      sorts_are = λ i. sort_of kind (bytes i) ∷ given.sorts_are i;
    }
  where
    bytes : take ((at.offset + length (take n t)) - at.offset) (drop at.offset source) ≡ take n t
    bytes = let long : (at.offset + length (take n t)) - at.offset ≡ n = omega (arith, length-take-le n t within) in
        ap (λ (m : ℕ). take m (drop at.offset source)) long ∙ ap (take n) f
