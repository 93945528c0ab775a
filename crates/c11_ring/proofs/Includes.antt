-- The lines of the headers.
use Rattle.std.proofs.Common.{◌≡◌, ◌<◌, ℕ, suc, ◌+◌, ◌==◌, nat_lt, Bool, true, false, if◌then◌else◌, List, [], ◌∷◌, ◌++◌, length, take, drop, codes, refl, sym, ap, subst, ◌∙◌, arith, inl, inr, length-append}
use Rattle.std.proofs.lemmas.Grind.{common_steps}
use Rattle.std.proofs.Math.Seq.{take-append_seam, drop-append_seam}
use Rattle.std.specs.List.{list_all}
use Rattle.c11_lexer.specs.declared.piece.Piece.TheVariants as p
use Rattle.c11_lexer.specs.declared.cursor.Cursor.{Cursor}
use Rattle.c11_lexer.specs.declared.token.TokenKind.TheVariants as k
use Rattle.c11_lexer.specs.Pieces.{Text, run, is_inline, is_word, is_blank, Longest}
use Rattle.c11_lexer.specs.Pieces as s
use Rattle.c11_lexer.specs.Directives.{first_run, after_run, IsHeader, is_inside, IsDirective, Included}
use Rattle.c11_lexer.specs.Directives as d
use Rattle.c11_lexer.specs.Scan.{after_byte, advance, past, line_of, leads, Front, Means}
use Rattle.c11_lexer.specs.Scan as scan
use Rattle.c11_grammar.specs.declared.token.Mark.TheVariants as m
use Rattle.c11_grammar.specs.declared.token.Sort.{Sort}
use Rattle.c11_grammar.specs.declared.token.Sort.TheVariants as sort
use Rattle.c11_ring.proofs.Gives.{Given, Gives, GivesFirst, skips, takes}
use Rattle.c11_ring.proofs.Parts.{is_blank_class}
use Rattle.c11_ring.proofs.Spelled.{and_is, not_is, run_all, run_none, blank_first}

-- ---- the line at a place

line_is : (line rest : Text) → list_all is_inline line ≡ true → line_of (line ++ 10 ∷ rest) ≡ line
unfolding is_inline
line_is line rest all =
    ap (λ (n : ℕ). take n (line ++ 10 ∷ rest)) (run_all is_inline line (10 ∷ rest) all (run_none is_inline 10 rest refl)) ∙ take-append_seam line (10 ∷ rest)

same_line : (at : Cursor) (b : ℕ) → is_inline b ≡ true → (after_byte at b).line ≡ at.line
unfolding is_inline
same_line at b e = by_test (b == 10) (not_is (b == 10) e)
  where
    by_test : (x : Bool) → x ≡ false → (if x then record at { line = at.line + 1; column = 1; offset = at.offset + 1 } else record at { column = at.column + 1; offset = at.offset + 1 }).line ≡ at.line
    by_test true f = cc
    by_test false f = refl

advance_line : (at : Cursor) (t : Text) → list_all is_inline t ≡ true → (advance at t).line ≡ at.line
unfolding advance
advance_line at [] all = refl
advance_line at (b ∷ t) all = let both = and_is (is_inline b) (list_all is_inline t) all in advance_line (after_byte at b) t both.1 ∙ same_line at b both.0

-- after a line feed the line is the next one, and the last token is where it was
next_line : (at : Cursor) → (advance at (10 ∷ [])).line ≡ at.line + 1
unfolding advance
next_line at = refl

next_token : (at : Cursor) → (advance at (10 ∷ [])).token_line ≡ at.token_line
unfolding advance
next_token at = refl

lt_true : (m n : ℕ) → m < n → nat_lt m n ≡ true
lt_true m n e = grind (arith, common_steps)

leads_first : (at : Cursor) (t : Text) → at.token_line < at.line → leads at (35 ∷ t) ≡ true
leads_first at t first = lt_true at.token_line at.line first

feed_plain : (at : Cursor) (t : Text) → leads at (10 ∷ t) ≡ false
feed_plain at t = refl

feed_blank : is_blank_class (s.class 10) ≡ true
unfolding s.class is_blank
feed_blank = refl

space_blank : is_blank_class (s.class 32) ≡ true
unfolding s.class is_blank
space_blank = refl

-- ---- a line with a directive

after_feed : (rest : Text) (sorts : List Sort) (at : Cursor) (source : Text) → at.token_line ≡ at.line → GivesFirst rest sorts → drop at.offset source ≡ 10 ∷ rest → Given at source (10 ∷ rest) sorts
after_feed rest sorts at source here given e =
    skips (10 ∷ rest) rest 1 p.Blank sorts at source (scan.Front.plain (feed_plain at rest) (blank_first 10 rest feed_blank)) (omega arith) scan.Means.blank refl e
    (λ f. given (advance at (10 ∷ [])) source (omega (arith, next_line at, next_token at, here)) f)

directive_gives : (t rest : Text) (sorts : List Sort) → list_all is_inline (35 ∷ t) ≡ true → IsDirective (35 ∷ t) (suc (length t)) p.Include → GivesFirst rest sorts
    → GivesFirst ((35 ∷ t) ++ 10 ∷ rest) (sort.Mark m.Include ∷ sorts)
directive_gives t rest sorts inline is given at source first e =
    let line : Text = 35 ∷ t in
    let whole : Text = line ++ 10 ∷ rest in
    let same : take (suc (length t)) whole ≡ line = take-append_seam line (10 ∷ rest) in
    let moved : (advance at (take (suc (length t)) whole)).line ≡ at.line = ap (λ (u : Text). (advance at u).line) same ∙ advance_line at line inline in
    takes whole (10 ∷ rest) (suc (length t)) p.Include k.Include sorts at source
    (scan.Front.directive (leads_first at (t ++ 10 ∷ rest) first) (subst (λ (u : Text). IsDirective u (suc (length t)) p.Include) (sym (line_is line rest inline)) is))
    (omega (arith, length-append t (10 ∷ rest))) scan.Means.include (drop-append_seam line (10 ∷ rest)) e
    (λ f. after_feed rest sorts (past at (take (suc (length t)) whole)) source (sym moved) given f)

include_is : (header : Text) → IsHeader header → list_all is_inside header ≡ true
    → IsDirective (35 ∷ (codes "include " ++ (header ++ 62 ∷ []))) (suc (length (codes "include " ++ (header ++ 62 ∷ [])))) p.Include
unfolding run is_word is_inside
include_is header is inside =
    let a : Text = header ++ 62 ∷ [] in
    let long : run is_inside a ≡ length header = run_all is_inside header (62 ∷ []) inside (run_none is_inside 62 [] refl) in
    let cut : take (run is_inside a) a ≡ header = ap (λ (n : ℕ). take n a) long ∙ take-append_seam header (62 ∷ []) in
    let left : drop (run is_inside a) a ≡ 62 ∷ [] = ap (λ (n : ℕ). drop n a) long ∙ drop-append_seam header (62 ∷ []) in
    d.IsDirective.include {t = codes "include " ++ a} {a = codes "include " ++ a} {rest = []} d.Skips.done refl
    (d.Included.included {t = 32 ∷ a} {a = a} {rest = []} (d.Skips.more {n = 1} (blank_first 32 a space_blank) refl d.Skips.done) (subst IsHeader (sym cut) is) left d.Skips.done)
    (omega arith)

inside_all : (list_all is_inside (codes "<stdatomic.h") ≡ true) × (list_all is_inside (codes "<threads.h") ≡ true) × (list_all is_inside (codes "<assert.h") ≡ true)
    × (list_all is_inside (codes "<stdio.h") ≡ true)
unfolding is_inside
inside_all = (refl, refl, refl, refl)

include_gives : (header rest : Text) (sorts : List Sort) → IsHeader header → list_all is_inside header ≡ true
    → list_all is_inline (35 ∷ (codes "include " ++ (header ++ 62 ∷ []))) ≡ true → GivesFirst rest sorts
    → GivesFirst ((35 ∷ (codes "include " ++ (header ++ 62 ∷ []))) ++ 10 ∷ rest) (sort.Mark m.Include ∷ sorts)
include_gives header rest sorts is inside inline given = directive_gives (codes "include " ++ (header ++ 62 ∷ [])) rest sorts inline (include_is header is inside) given

pub includes_give : (rest : Text) (sorts : List Sort) → Gives rest sorts
    → GivesFirst (codes "#include <stdatomic.h>\n#include <threads.h>\n#include <assert.h>\n#include <stdio.h>\n" ++ rest)
    (sort.Mark m.Include ∷ sort.Mark m.Include ∷ sort.Mark m.Include ∷ sort.Mark m.Include ∷ sorts)
unfolding is_inline
includes_give rest sorts given =
    include_gives (codes "<stdatomic.h") _ _ (inl refl) inside_all.0 refl
    (include_gives (codes "<threads.h") _ _ (inr (inl refl)) inside_all.1 refl
    (include_gives (codes "<assert.h") _ _ (inr (inr (inr refl))) inside_all.2 refl
    (include_gives (codes "<stdio.h") rest sorts (inr (inr (inl refl))) inside_all.3 refl (λ at source first e. given at source e))))
