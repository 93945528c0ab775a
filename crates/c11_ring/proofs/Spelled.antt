-- Parts that fit give their sorts.
use Rattle.std.proofs.Common.{◌≡◌, ◌≤◌, ◌<◌, ℕ, zero, suc, ◌+◌, ◌^◌, ◌==◌, nat_le, nat_lt, ◌&&◌, ◌||◌, not, Bool, true, false, List, [], ◌∷◌, ◌++◌, length, take, get_or, Option, Some, None, pos, refl, sym, ap, subst, ◌∙◌, arith, append_assoc, length-append, append-nil}
use Rattle.std.proofs.lemmas.Grind.{common_steps}
use Rattle.std.proofs.lemmas.Int.{ints}
use Rattle.std.proofs.lemmas.Fmt.{decimal_is_IsNumeral, decimal_digit, first_decimal}
use Rattle.std.proofs.lemmas.Str.Parse.{digit_at}
use Rattle.std.proofs.Math.Seq.{take-append_seam, drop-append_seam}
use Rattle.std.specs.List.{list_all}
use Rattle.std.specs.Fmt.{decimal}
use Rattle.std.specs.Char.{is_ascii_digit, digit_value}
use Rattle.std.specs.Str.Parse.{AllDigits, digits_value}
use Rattle.c11_num.specs.Ranges.{TypedNumber, IsInRange}
use Rattle.c11_num.specs.declared.value.CType.TheVariants as c
use Rattle.c11_lexer.specs.declared.piece.Class.{Class}
use Rattle.c11_lexer.specs.declared.piece.Class.TheVariants as class
use Rattle.c11_lexer.specs.declared.piece.Piece.{Piece}
use Rattle.c11_lexer.specs.declared.piece.Piece.TheVariants as p
use Rattle.c11_lexer.specs.declared.cursor.Cursor.{Cursor}
use Rattle.c11_lexer.specs.declared.scan.Outcome.TheVariants as o
use Rattle.c11_lexer.specs.declared.number.Base.TheVariants as b
use Rattle.c11_lexer.specs.declared.number.Suffix.TheVariants as x
use Rattle.c11_lexer.specs.declared.token.TokenKind.{TokenKind}
use Rattle.c11_lexer.specs.declared.token.TokenKind.TheVariants as k
use Rattle.c11_lexer.specs.Pieces.{Text, Every, run, is_blank, is_word, is_mark, is_doubled, takes_equals, is_shift, is_plain, escaped, Longest}
use Rattle.c11_lexer.specs.Pieces as s
use Rattle.c11_lexer.specs.Numbers.{is_digit_of, suffix_of, IsLiteral}
use Rattle.c11_lexer.specs.Numbers as n
use Rattle.c11_lexer.specs.Directives as d
use Rattle.c11_lexer.specs.Reading.{front, by_class, mark_len, is_pair, is_triple, quoted_from}
use Rattle.c11_lexer.specs.Scan.{advance, past, leads, Means}
use Rattle.c11_lexer.specs.Scan as scan
use Rattle.c11_lexer.proofs.Longest.{front_is_longest}
use Rattle.c11_grammar.specs.declared.token.Sort.{Sort}
use Rattle.c11_grammar.specs.declared.token.Sort.TheVariants as sort
use Rattle.c11_parser.specs.Sorting.{sort_of}
use Rattle.c11_ring.proofs.Parts.{Part, gap, word, number, sign, format, spelling_of, spelling, literal, sorts_with, sorts_of, IsSmall, SmallThen, AreSmall, next_of, is_blank_class, is_mark_class, ends_word, is_closed, ends_mark, ends_pair, fits_sign, fits_word, fits_part, fits}
use Rattle.c11_ring.proofs.Gives.{Given, Gives, skips, takes}

-- ---- tests

pub and_is : (x y : Bool) → (x && y) ≡ true → (x ≡ true) × (y ≡ true)
and_is true true e = (refl, refl)
and_is true false e = cc
and_is false y e = cc

pub not_is : (x : Bool) → not x ≡ true → x ≡ false
not_is true e = cc
not_is false e = refl

and_false : (x y : Bool) → y ≡ false → (x && y) ≡ false
and_false true y e = e
and_false false y e = refl

or_false : (x y : Bool) → x ≡ false → y ≡ false → (x || y) ≡ false
or_false x y e f = rw e f

test_is : (m k : ℕ) → (m == k) ≡ true → m ≡ k
test_is m k e = grind (arith, common_steps)

le_is : (m k : ℕ) → nat_le m k ≡ true → m ≤ k
le_is m k e = grind (arith, common_steps)

true_le : (m k : ℕ) → m ≤ k → nat_le m k ≡ true
true_le m k e = grind (arith, common_steps)

true_lt : (m k : ℕ) → m < k → nat_lt m k ≡ true
true_lt m k e = grind (arith, common_steps)

-- ---- no part begins with a `#`

abbrev is_other_class : Class → Bool
is_other_class class.Blank = false
is_other_class class.Run = false
is_other_class class.Quote = false
is_other_class class.Slash = false
is_other_class class.Mark = false
is_other_class class.Other = true

hash_class : is_other_class (s.class 35) ≡ true
unfolding s.class is_blank is_word is_mark
hash_class = refl

no_hash : (at : Cursor) (first : ℕ) (t : Text) (k : Class) → s.class first ≡ k → is_other_class k ≡ false → leads at (first ∷ t) ≡ false
no_hash at first t k e other = by_test (first == 35) refl
  where
    by_test : (x : Bool) → (first == 35) ≡ x → leads at (first ∷ t) ≡ false
    by_test false f = rw f refl
    by_test true f = absurd (let clash : true ≡ false = sym hash_class ∙ ap (λ (m : ℕ). is_other_class (s.class m)) (sym (test_is first 35 f)) ∙ ap is_other_class e ∙ other in cc)

-- ---- one piece

longest_at : (t : Text) (piece : Piece) (m : ℕ) → 0 < length t → front t ≡ (piece, m) → Longest t m piece
longest_at t piece m some e = subst (λ (x : Piece × ℕ). Longest t x.1 x.0) e (front_is_longest t some)

piece_gives : (w rest : Text) (piece : Piece) (kind : TokenKind) (sorts : List Sort) → 0 < length w → ((at : Cursor) → leads at (w ++ rest) ≡ false)
    → front (w ++ rest) ≡ (piece, length w) → ((at : Cursor) → Means at piece w (o.Token kind)) → Gives rest sorts → Gives (w ++ rest) (sort_of kind w ∷ sorts)
piece_gives w rest piece kind sorts some plain front_is means given at source e =
    let same : take (length w) (w ++ rest) ≡ w = take-append_seam w rest in
    let room : length w ≤ length (w ++ rest) = omega (arith, length-append w rest) in
    subst (λ (u : Text). Given at source (w ++ rest) (sort_of kind u ∷ sorts)) same
    (takes (w ++ rest) rest (length w) piece kind sorts at source
    (scan.Front.plain (plain at) (longest_at (w ++ rest) piece (length w) (omega arith) front_is)) room
    (subst (λ (u : Text). Means at piece u (o.Token kind)) (sym same) (means at)) (drop-append_seam w rest) e
    (λ f. given (past at (take (length w) (w ++ rest))) source f))

-- ---- blanks

blank_is : (k : Class) → is_blank_class k ≡ true → k ≡ class.Blank
blank_is class.Blank e = refl
blank_is class.Run e = cc
blank_is class.Quote e = cc
blank_is class.Slash e = cc
blank_is class.Mark e = cc
blank_is class.Other e = cc

blank_front : (first : ℕ) (t : Text) → s.class first ≡ class.Blank → front (first ∷ t) ≡ (p.Blank, 1)
unfolding front
blank_front first t e = ap (λ (k : Class). by_class k first t) e

pub blank_first : (first : ℕ) (t : Text) → is_blank_class (s.class first) ≡ true → Longest (first ∷ t) 1 p.Blank
blank_first first t is = longest_at (first ∷ t) p.Blank 1 (omega arith) (blank_front first t (blank_is (s.class first) is))

gap_gives : (first : ℕ) (t : Text) (sorts : List Sort) → is_blank_class (s.class first) ≡ true → Gives t sorts → Gives (first ∷ t) sorts
gap_gives first t sorts is given at source e =
    skips (first ∷ t) t 1 p.Blank sorts at source (scan.Front.plain (no_hash at first t class.Blank (blank_is (s.class first) is) refl) (blank_first first t is))
    (omega arith) scan.Means.blank refl e (λ f. given (advance at (first ∷ [])) source f)

-- ---- marks

mark_is : (k : Class) → is_mark_class k ≡ true → k ≡ class.Mark
mark_is class.Blank e = cc
mark_is class.Run e = cc
mark_is class.Quote e = cc
mark_is class.Slash e = cc
mark_is class.Mark e = refl
mark_is class.Other e = cc

-- what a text begins with, where that is known
abbrev Begins : Option ℕ → Text → Type 0
Begins None t = Unit {0}
Begins (Some first) t = (u : Text) × (t ≡ first ∷ u)

pair_false : (m first : ℕ) → is_closed m ≡ true → is_pair m first ≡ false
pair_false m first e =
    let one = and_is (not (is_doubled m)) (not (takes_equals m) && not (is_shift m)) e in
    let two = and_is (not (takes_equals m)) (not (is_shift m)) one.1 in
    or_false (first == m && is_doubled m) (first == 61 && takes_equals m) (and_false (first == m) (is_doubled m) (not_is (is_doubled m) one.0))
    (and_false (first == 61) (takes_equals m) (not_is (takes_equals m) two.0))

triple_false : (m first second : ℕ) → is_closed m ≡ true → is_triple m first second ≡ false
triple_false m first second e =
    let one = and_is (not (is_doubled m)) (not (takes_equals m) && not (is_shift m)) e in
    let two = and_is (not (takes_equals m)) (not (is_shift m)) one.1 in
    and_false (first == m && second == 61) (is_shift m) (not_is (is_shift m) two.1)

closed_len : (m : ℕ) (t : Text) → is_closed m ≡ true → mark_len m t ≡ 1
unfolding mark_len
closed_len m [] e = refl
closed_len m (first ∷ []) e = rw (pair_false m first e) refl
closed_len m (first ∷ second ∷ t) e = rw (triple_false m first second e, pair_false m first e) refl

next_len : (m first : ℕ) (t : Text) → (first == m) ≡ false → is_pair m first ≡ false → mark_len m (first ∷ t) ≡ 1
unfolding mark_len
next_len m first [] e f = rw f refl
next_len m first (second ∷ t) e f =
    let none : is_triple m first second ≡ false = ap (λ (y : Bool). (y && second == 61) && is_shift m) e in rw (none, f) refl

or_is : {P : Type 0} (x y : Bool) → (x || y) ≡ true → (x ≡ true → P) → (y ≡ true → P) → P
or_is true y e f g = f refl
or_is false y e f g = g e

mark_ends : (m : ℕ) (t : Text) (next : Option ℕ) → Begins next t → ends_mark m next ≡ true → mark_len m t ≡ 1
mark_ends m t None begins e = closed_len m t e
mark_ends m t (Some first) begins e = or_is (is_closed m) (not (first == m) && not (is_pair m first)) e (λ f. closed_len m t f)
    (λ f. let both = and_is (not (first == m)) (not (is_pair m first)) f in
    ap (mark_len m) begins.1 ∙ next_len m first begins.0 (not_is (first == m) both.0) (not_is (is_pair m first) both.1))

pair_len : (m first second : ℕ) (t : Text) → is_pair m first ≡ true → is_triple m first second ≡ false → mark_len m (first ∷ second ∷ t) ≡ 2
unfolding mark_len
pair_len m first second t e f = rw (f, e) refl

pair_ends : (m first : ℕ) (t : Text) (next : Option ℕ) → Begins next t → ends_pair m first next ≡ true → mark_len m (first ∷ t) ≡ 2
pair_ends m first t None begins e = cc
pair_ends m first t (Some second) begins e =
    let both = and_is (is_pair m first) (not (is_triple m first second)) e in
    ap (λ (u : Text). mark_len m (first ∷ u)) begins.1 ∙ pair_len m first second begins.0 both.0 (not_is (is_triple m first second) both.1)

mark_front : (first : ℕ) (t : Text) (m : ℕ) → s.class first ≡ class.Mark → mark_len first t ≡ m → front (first ∷ t) ≡ (p.Mark, m)
unfolding front
mark_front first t m e f = ap (λ (k : Class). by_class k first t) e ∙ ap (λ (j : ℕ). (p.Mark, j)) f

sign_gives : (w rest : Text) (sorts : List Sort) (next : Option ℕ) → Begins next rest → fits_sign w next ≡ true → Gives rest sorts → Gives (w ++ rest) (sort_of k.Mark w ∷ sorts)
sign_gives [] rest sorts next begins e given = cc
sign_gives (first ∷ []) rest sorts next begins e given =
    let both = and_is (is_mark_class (s.class first)) (ends_mark first next) e in
    let is : s.class first ≡ class.Mark = mark_is (s.class first) both.0 in
    piece_gives (first ∷ []) rest p.Mark k.Mark sorts (omega arith) (λ at. no_hash at first rest class.Mark is refl)
    (mark_front first rest 1 is (mark_ends first rest next begins both.1)) (λ at. scan.Means.mark) given
sign_gives (first ∷ second ∷ []) rest sorts next begins e given =
    let both = and_is (is_mark_class (s.class first)) (ends_pair first second next) e in
    let is : s.class first ≡ class.Mark = mark_is (s.class first) both.0 in
    piece_gives (first ∷ second ∷ []) rest p.Mark k.Mark sorts (omega arith) (λ at. no_hash at first (second ∷ rest) class.Mark is refl)
    (mark_front first (second ∷ rest) 2 is (pair_ends first second rest next begins both.1)) (λ at. scan.Means.mark) given
sign_gives (first ∷ second ∷ third ∷ w) rest sorts next begins e given = cc

-- ---- runs

run_class : (first : ℕ) → is_word first ≡ true → s.class first ≡ class.Run
unfolding s.class is_blank is_word
run_class first e = grind (arith, common_steps)

pub run_all : (test : ℕ → Bool) (t rest : Text) → list_all test t ≡ true → run test rest ≡ 0 → run test (t ++ rest) ≡ length t
unfolding run
run_all test [] rest e f = f
run_all test (first ∷ t) rest e f = let both = and_is (test first) (list_all test t) e in rw both.0 (ap suc (run_all test t rest both.1 f))

pub run_none : (test : ℕ → Bool) (first : ℕ) (t : Text) → test first ≡ false → run test (first ∷ t) ≡ 0
unfolding run
run_none test first t e = rw e refl

word_ends : (rest : Text) (next : Option ℕ) → Begins next rest → ends_word next ≡ true → run is_word rest ≡ 0
word_ends rest None begins e = cc
word_ends rest (Some first) begins e = ap (run is_word) begins.1 ∙ run_none is_word first begins.0 (not_is (is_word first) e)

run_front : (first : ℕ) (t rest : Text) → is_word first ≡ true → list_all is_word t ≡ true → run is_word rest ≡ 0 → front (first ∷ (t ++ rest)) ≡ (p.Run, suc (length t))
unfolding front
run_front first t rest e all ends = ap (λ (k : Class). by_class k first (t ++ rest)) (run_class first e)
    ∙ (let long : run is_word (t ++ rest) + 1 ≡ suc (length t) = omega (arith, run_all is_word t rest all ends) in ap (λ (m : ℕ). (p.Run, m)) long)

run_gives : (first : ℕ) (t rest : Text) (kind : TokenKind) (sorts : List Sort) (next : Option ℕ) → Begins next rest → is_word first ≡ true → list_all is_word t ≡ true → ends_word next ≡ true
    → ((at : Cursor) → Means at p.Run (first ∷ t) (o.Token kind)) → Gives rest sorts → Gives (first ∷ (t ++ rest)) (sort_of kind (first ∷ t) ∷ sorts)
run_gives first t rest kind sorts next begins e all ends means given =
    piece_gives (first ∷ t) rest p.Run kind sorts (omega arith) (λ at. no_hash at first (t ++ rest) class.Run (run_class first e) refl)
    (run_front first t rest e all (word_ends rest next begins ends)) means given

word_gives : (w rest : Text) (sorts : List Sort) (next : Option ℕ) → Begins next rest → fits_word w next ≡ true → Gives rest sorts → Gives (w ++ rest) (sort_of k.Word w ∷ sorts)
word_gives [] rest sorts next begins e given = cc
word_gives (first ∷ t) rest sorts next begins e given =
    let both = and_is (is_word first && not (is_ascii_digit first)) (list_all is_word t && (nat_le (suc (length t)) 127 && ends_word next)) e in
    let byte = and_is (is_word first) (not (is_ascii_digit first)) both.0 in
    let tail = and_is (list_all is_word t) (nat_le (suc (length t)) 127 && ends_word next) both.1 in
    let last = and_is (nat_le (suc (length t)) 127) (ends_word next) tail.1 in
    run_gives first t rest k.Word sorts next begins byte.0 tail.0 last.1
    (λ at. scan.Means.word (d.IsWord.word (not_is (is_ascii_digit first) byte.1) (le_is (suc (length t)) 127 last.0))) given

-- ---- numbers

digit_word : (first : ℕ) → digit_value first < 10 → is_word first ≡ true
unfolding is_word
digit_word first small =
    let range = digit_at (first ∷ []) 0 (small, tt) (omega arith) in
    let low : 48 ≤ first = range.0 in
    let high : first ≤ 57 = range.1 in
    rw (true_le 48 first low, true_le first 57 high) refl

digits_words : (t : Text) → AllDigits 10 t → list_all is_word t ≡ true
digits_words [] all = refl
digits_words (first ∷ t) all = rw (digit_word first all.0) (digits_words t all.1)

digit_true : (first : ℕ) → digit_value first < 10 → is_digit_of b.Decimal first ≡ true
unfolding is_digit_of
digit_true first small = true_lt (digit_value first) 10 small

digits_every : (t : Text) → AllDigits 10 t → Every (is_digit_of b.Decimal) t
digits_every [] all = s.Every.none
digits_every (first ∷ t) all = s.Every.more (digit_true first all.0) (digits_every t all.1)

plain_suffix : suffix_of [] ≡ Some x.Plain
unfolding suffix_of
plain_suffix = refl

abbrev int : ℕ → TypedNumber
int m = record { ctype = c.Int; number = pos m }

in_range : (m : ℕ) → m < 1000 → IsInRange c.Int (pos m)
in_range m small = (omega (arith, ints), omega (arith, ints, small))

zero_literal : IsLiteral (48 ∷ []) (int 0)
zero_literal = record {
  base = b.Octal;
  digits = [];
  suffix = x.Plain;
  is = n.IsNumber.octal (record { ending = []; split = refl; all = s.Every.none; suffix_is = plain_suffix });
  number_is = refl;
  type_is = n.FirstHolding.here (in_range 0 (omega arith));
}

some_literal : (m : ℕ) (t : Text) → 0 < length t → AllDigits 10 t → digits_value 10 t ≡ m → 48 < get_or t 0 0 → m < 1000 → IsLiteral t (int m)
some_literal m [] some all value first small = absurd (omega arith)
some_literal m (first ∷ t) some all value above small = record {
  base = b.Decimal;
  digits = first ∷ t;
  suffix = x.Plain;
  is = n.IsNumber.decimal (λ e. omega arith) (digit_true first all.0)
      (record { ending = []; split = sym (append-nil (first ∷ t)); all = digits_every (first ∷ t) all; suffix_is = plain_suffix });
  number_is = ap pos (sym value);
  type_is = n.FirstHolding.here (in_range m small);
}

decimal_literal : (m : ℕ) → m < 1000 → IsLiteral (decimal m) (int m)
decimal_literal zero small = subst (λ (t : Text). IsLiteral t (int 0)) (sym (decimal_digit 0 (omega arith))) zero_literal
decimal_literal (suc m) small =
    let room : suc m < 2 ^ 64 = omega arith in
    let numeral = decimal_is_IsNumeral (suc m) room in
    some_literal (suc m) (decimal (suc m)) numeral.0.0 numeral.0.1 numeral.1 (first_decimal (suc m) (omega arith) room) small

digits_give : (m : ℕ) (w rest : Text) (sorts : List Sort) (next : Option ℕ) → Begins next rest → ends_word next ≡ true → 0 < length w → AllDigits 10 w → IsLiteral w (int m) → Gives rest sorts
    → Gives (w ++ rest) (literal m ∷ sorts)
digits_give m [] rest sorts next begins ends some all is given = absurd (omega arith)
digits_give m (first ∷ t) rest sorts next begins ends some all is given =
    run_gives first t rest (k.Literal (int m)) sorts next begins (digit_word first all.0) (digits_words t all.1) ends (λ at. scan.Means.literal is) given

number_gives : (m : ℕ) (rest : Text) (sorts : List Sort) (next : Option ℕ) → Begins next rest → ends_word next ≡ true → m < 1000 → Gives rest sorts → Gives (decimal m ++ rest) (literal m ∷ sorts)
number_gives m rest sorts next begins ends small given =
    let numeral = decimal_is_IsNumeral m (omega arith) in
    digits_give m (decimal m) rest sorts next begins ends numeral.0.0 numeral.0.1 (decimal_literal m small) given

-- ---- the one text

quote_class : s.class 34 ≡ class.Quote
unfolding s.class is_blank is_word
quote_class = refl

format_front : (rest : Text) → front (spelling_of format ++ rest) ≡ (p.Text (37 ∷ 100 ∷ 10 ∷ []), 6)
unfolding front s.class is_blank is_word quoted_from escaped is_plain
format_front rest = refl

format_gives : (rest : Text) (sorts : List Sort) → Gives rest sorts → Gives (spelling_of format ++ rest) (sort.Text (37 ∷ 100 ∷ 10 ∷ []) ∷ sorts)
format_gives rest sorts given =
    piece_gives (spelling_of format) rest (p.Text (37 ∷ 100 ∷ 10 ∷ [])) (k.Text (37 ∷ 100 ∷ 10 ∷ [])) sorts (omega arith)
    (λ at. no_hash at 34 (37 ∷ 100 ∷ 92 ∷ 110 ∷ 34 ∷ rest) class.Quote quote_class refl) (format_front rest) (λ at. scan.Means.text) given

-- ---- any parts

begins : (parts : List Part) (rest : Text) → Begins (next_of parts) (spelling parts ++ rest)
begins [] rest = tt
begins (gap first ∷ parts) rest = (spelling parts ++ rest, refl)
begins (word [] ∷ parts) rest = tt
begins (word (first ∷ t) ∷ parts) rest = ((t ++ spelling parts) ++ rest, refl)
begins (number m ∷ parts) rest = tt
begins (sign [] ∷ parts) rest = tt
begins (sign (first ∷ t) ∷ parts) rest = ((t ++ spelling parts) ++ rest, refl)
begins (format ∷ parts) rest = (37 ∷ 100 ∷ 92 ∷ 110 ∷ 34 ∷ (spelling parts ++ rest), refl)

part_gives : (part : Part) (rest : Text) (sorts : List Sort) (next : Option ℕ) → Begins next rest → fits_part part next ≡ true → IsSmall part → Gives rest sorts
    → Gives (spelling_of part ++ rest) (sorts_with part sorts)
part_gives (gap first) rest sorts next begins e small given = gap_gives first rest sorts e given
part_gives (word t) rest sorts next begins e small given = word_gives t rest sorts next begins e given
part_gives (number m) rest sorts next begins e small given = number_gives m rest sorts next begins e small given
part_gives (sign t) rest sorts next begins e small given = sign_gives t rest sorts next begins e given
part_gives format rest sorts next begins e small given = format_gives rest sorts given

pub small_split : (part : Part) (Rest : Type 0) → SmallThen part Rest → IsSmall part × Rest
small_split (gap first) Rest h = (tt, h)
small_split (word t) Rest h = (tt, h)
small_split (number m) Rest h = h
small_split (sign t) Rest h = (tt, h)
small_split format Rest h = (tt, h)

pub parts_give : (parts : List Part) (rest : Text) (sorts : List Sort) → fits parts ≡ true → AreSmall parts → Gives rest sorts → Gives (spelling parts ++ rest) (sorts_of parts sorts)
parts_give [] rest sorts e small given = given
parts_give (part ∷ parts) rest sorts e small given =
    let both = and_is (fits_part part (next_of parts)) (fits parts) e in
    let numbers = small_split part (AreSmall parts) small in
    subst (λ (t : Text). Gives t (sorts_with part (sorts_of parts sorts))) (sym (append_assoc (spelling_of part) (spelling parts) rest))
    (part_gives part (spelling parts ++ rest) (sorts_of parts sorts) (next_of parts) (begins parts rest) both.0 numbers.0 (parts_give parts rest sorts both.1 numbers.1 given))
