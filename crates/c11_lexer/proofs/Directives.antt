-- A line is a directive in one way at most.
use Rattle.std.proofs.Common.{◌≡◌, ◌≤◌, ◌<◌, ℕ, zero, suc, ◌+◌, ◌-◌, Bool, true, false, [], ◌∷◌, length, take, drop, codes, refl, sym, ap, subst, ◌∙◌, arith, ◌⊎◌, inl, inr, length-drop, slice_index, if◌then◌else◌, IsTrue, nat_le, ◌==◌, ◌↔◌, Result, Ok, Err, IfOk}
use Rattle.std.proofs.lemmas.Grind.{common_steps}
use Rattle.c11_lexer.specs.declared.piece.Class.{Class}
use Rattle.c11_lexer.specs.declared.piece.Class.TheVariants as c
use Rattle.c11_lexer.specs.declared.piece.Piece.{Piece}
use Rattle.c11_lexer.specs.declared.piece.Piece.TheVariants as p
use Rattle.std.specs.Char.{is_ascii_digit}
use Rattle.c11_lexer.specs.Pieces.{Text, run, class, is_blank, is_word, is_mark, Longest, IsPiece, SamePiece}
use Rattle.c11_lexer.specs.declared.number.Base.{Base}
use Rattle.c11_lexer.specs.declared.number.Suffix.{Suffix}
use Rattle.c11_lexer.specs.Numbers.{SpellsNumber, IsNumber}
use Rattle.c11_lexer.specs.Numbers as n
use Rattle.c11_lexer.specs.Directives.{is_space, Skips, first_run, after_run, IsWord, IsHeader, is_inside, Included, Defined, IsDirective, NoDirective, Stops, SkipsTo}
use Rattle.c11_lexer.specs.Directives as d
use Rattle.c11_lexer.proofs.Longest.{Starts, in_class, same_length, one_longest}
use Rattle.c11_lexer.proofs.Longest as l

-- ---- blanks and comments

pub skip_more : (t a : Text) (n : ℕ) (piece : Piece) → Skips t a → Longest a n piece → is_space piece ≡ true → Skips t (drop n a)
skip_more t a n piece d.Skips.done longest is = d.Skips.more longest is d.Skips.done
skip_more t a n piece (d.Skips.more {n = k} first e tail) longest is = d.Skips.more first e (skip_more (drop k t) a n piece tail longest is)

pub skips_shorter : (t a : Text) → Skips t a → length a ≤ length t
skips_shorter t a d.Skips.done = omega arith
skips_shorter t a (d.Skips.more {n = k} first e tail) = omega (arith, skips_shorter (drop k t) a tail, length-drop k t)

pub skips_same : (t a b : Text) → Skips t a → Skips t b → Stops a → Stops b → a ≡ b
skips_same t a b d.Skips.done d.Skips.done stops other_stops = refl
skips_same t a b d.Skips.done (d.Skips.more {n = k} {piece = q} first e tail) stops other_stops = absurd (stops k q first e)
skips_same t a b (d.Skips.more {n = k} {piece = q} first e tail) d.Skips.done stops other_stops = absurd (other_stops k q first e)
skips_same t a b (d.Skips.more {n = k} {piece = q} first e tail) (d.Skips.more {n = j} {piece = r} other f other_tail) stops other_stops =
    skips_same (drop k t) a b tail (subst (λ (m : ℕ). Skips (drop m t) b) (sym (same_length t k j q r first other)) other_tail) stops other_stops

pub stops_end : Stops []
stops_end n piece longest is = let some = longest.some in let within = longest.within in omega arith

-- a byte that begins neither a blank nor a comment
Solid : Class → Type 0
Solid c.Blank = ⊥
Solid c.Run = Unit {0}
Solid c.Quote = Unit {0}
Solid c.Slash = ⊥
Solid c.Mark = Unit {0}
Solid c.Other = Unit {0}

no_space : (b : ℕ) (u : Text) (q : Piece) (k : Class) → Solid k → Starts b u q k → is_space q ≡ true → ⊥
unfolding Solid
no_space b u q k solid (l.Starts.blank e) is = solid
no_space b u q k solid (l.Starts.run_on all) is = cc
no_space b u q k solid (l.Starts.mark e mark) is = cc
no_space b u q k solid (l.Starts.line_comment v all e) is = solid
no_space b u q k solid (l.Starts.closed body free e) is = solid
no_space b u q k solid (l.Starts.unclosed body free e) is = solid
no_space b u q k solid (l.Starts.text quoted short) is = cc
no_space b u q k solid (l.Starts.no_text none) is = cc
no_space b u q k solid (l.Starts.stray e) is = cc

stops_solid : (b : ℕ) (u : Text) (k : Class) → class b ≡ k → Solid k → Stops (b ∷ u)
stops_solid b u k e solid n piece longest is = at_length n longest.some longest.is
  where
    at_length : (m : ℕ) → 0 < m → IsPiece (take m (b ∷ u)) piece → ⊥
    at_length zero some front = absurd (omega arith)
    at_length (suc m) some front = no_space b (take m u) piece k solid (in_class b (take m u) piece k e front) is

word_class : (b : ℕ) → is_word b ≡ true → class b ≡ c.Run
unfolding class is_blank is_word
word_class b e = grind (arith, common_steps)

chosen : {A : Type 0} (x : Bool) (a b e : A) → (if x then a else b) ≡ e → ((x ≡ true) × (a ≡ e)) ⊎ ((x ≡ false) × (b ≡ e))
chosen true a b e is = inl (refl, is)
chosen false a b e is = inr (refl, is)

cut_run : (x : Bool) (m : ℕ) (b y : ℕ) (u ys : Text) → take (if x then suc m else 0) (b ∷ u) ≡ y ∷ ys → x ≡ true
cut_run true m b y u ys e = refl
cut_run false m b y u ys e = cc

run_first : (b y : ℕ) (u ys : Text) → first_run (b ∷ u) ≡ y ∷ ys → is_word b ≡ true
unfolding run
run_first b y u ys e = cut_run (is_word b) (run is_word u) b y u ys e

pub stops_run : (a : Text) (y : ℕ) (ys : Text) → first_run a ≡ y ∷ ys → Stops a
unfolding run Solid
stops_run [] y ys e = cc
stops_run (b ∷ u) y ys e = stops_solid b u c.Run (word_class b (run_first b y u ys e)) tt

-- ---- words

le_true : (m k : ℕ) → nat_le m k ≡ true → m ≤ k
le_true m k e = grind (arith, common_steps)

true_le : (m k : ℕ) → m ≤ k → nat_le m k ≡ true
true_le m k e = grind (arith, common_steps)

pub word_test : (t : Text) → 0 < length t → is_ascii_digit (slice_index t 0) ≡ false → (nat_le (length t) 127 ≡ true → IsWord t) × (IsWord t → nat_le (length t) 127 ≡ true)
word_test [] some e = absurd (omega arith)
word_test (b ∷ t) some e = ((λ f. d.IsWord.word e (le_true (suc (length t)) 127 f)), word_short)
  where
    word_short : IsWord (b ∷ t) → nat_le (suc (length t)) 127 ≡ true
    word_short (d.IsWord.word f short) = true_le (suc (length t)) 127 short

pub word_first : (t : Text) → IsWord t → (y : ℕ) × (ys : Text) × (t ≡ y ∷ ys)
word_first t (d.IsWord.word {b = b} {t = u} e short) = (b, u, refl)

pub number_first : (t : Text) → SpellsNumber t → (y : ℕ) × (ys : Text) × (t ≡ y ∷ ys)
number_first t h = first_of_number t h.0 h.1 h.2 h.3
  where
    first_of_number : (u : Text) (base : Base) (digits : Text) (suffix : Suffix) → IsNumber u base digits suffix → (y : ℕ) × (ys : Text) × (u ≡ y ∷ ys)
    first_of_number u base digits suffix (n.IsNumber.decimal {d = b} {t = v} e f h) = (b, v, refl)
    first_of_number u base digits suffix (n.IsNumber.octal {t = v} h) = (48, v, refl)
    first_of_number u base digits suffix (n.IsNumber.hexadecimal {d = b} {t = v} e f h) = (48, b ∷ v, refl)

-- ---- headers

header_first : (t : Text) → IsHeader t → (ys : Text) × (t ≡ 60 ∷ ys)
header_first t (inl e) = (codes "stdatomic.h", e)
header_first t (inr (inl e)) = (codes "threads.h", e)
header_first t (inr (inr (inl e))) = (codes "stdio.h", e)
header_first t (inr (inr (inr e))) = (codes "assert.h", e)

angle_class : class 60 ≡ c.Mark
unfolding class is_blank is_word is_mark
angle_class = refl

cut_first : (x : Bool) (m : ℕ) (b y : ℕ) (u ys : Text) → take (if x then suc m else 0) (b ∷ u) ≡ y ∷ ys → b ≡ y
cut_first true m b y u ys e = cc
cut_first false m b y u ys e = cc

pub stops_header : (a : Text) → IsHeader (take (run is_inside a) a) → Stops a
unfolding run Solid
stops_header [] h = absurd (let first = header_first [] h in let e = first.1 in cc)
stops_header (b ∷ u) h =
    let first = header_first (take (run is_inside (b ∷ u)) (b ∷ u)) h in
    let byte : b ≡ 60 = cut_first (is_inside b) (run is_inside u) b 60 u first.0 first.1 in
    stops_solid b u c.Mark (ap class byte ∙ angle_class) tt

stops_word : (a : Text) → IsWord (first_run a) → Stops a
stops_word a h = let first = word_first (first_run a) h in stops_run a first.0 first.1 first.2

stops_number : (a : Text) → SpellsNumber (first_run a) → Stops a
stops_number a h = let first = number_first (first_run a) h in stops_run a first.0 first.1 first.2

-- ---- the rest of a line

pub ends_none : (t r : Text) → SkipsTo t r → r ≡ [] → Skips t []
ends_none t r to e = subst (Skips t) e to.skips

pub ends_rest : (t r : Text) → SkipsTo t r → Skips t [] → r ≡ []
ends_rest t r to skips = skips_same t r [] to.skips skips to.stops stops_end

-- ---- `include`

pub record HeaderAt (a rest : Text) : Type 0 where
  pub header : IsHeader (take (run is_inside a) a)
  pub close : drop (run is_inside a) a ≡ 62 ∷ rest
  pub ends : Skips rest []

pub included_at : (t a rest : Text) → SkipsTo t a → Included t rest → HeaderAt a rest
included_at t a rest to (d.Included.included {a = b} skips header close ends) =
    subst (λ (x : Text). HeaderAt x rest) (sym (skips_same t a b to.skips skips to.stops (stops_header b header))) (record { header = header; close = close; ends = ends })

-- ---- `define`

pub record NameAt (a : Text) : Type 0 where
  pub value : Text
  pub name : IsWord (first_run a)
  pub skips : Skips (after_run a) value
  pub number : SpellsNumber (first_run value)
  pub ends : Skips (after_run value) []

pub defined_at : (t a : Text) → SkipsTo t a → Defined t → NameAt a
defined_at t a to (d.Defined.defined {a = other} {b = value} skips name after number ends) =
    subst NameAt (sym (skips_same t a other to.skips skips to.stops (stops_word other name))) (record { value = value; name = name; skips = after; number = number; ends = ends })

pub record NumberAt (b : Text) : Type 0 where
  pub number : SpellsNumber (first_run b)
  pub ends : Skips (after_run b) []

pub number_at : (t a b : Text) → SkipsTo t a → SkipsTo (after_run a) b → Defined t → NumberAt b
number_at t a b to after h =
    let at = defined_at t a to h in
    subst NumberAt (sym (skips_same (after_run a) b at.value after.skips at.skips after.stops (stops_number at.value at.number))) (record { number = at.number; ends = at.ends })

-- ---- directives

-- the first word of a directive, and what stands after it
pub data WordAt (a : Text) : ℕ → Piece → ℕ → Type 0 where
  include : {n size : ℕ} (rest : Text) → first_run a ≡ codes "include" → Included (after_run a) rest → n + length rest ≡ size → WordAt a n p.Include size
  define : {n size : ℕ} → first_run a ≡ codes "define" → Defined (after_run a) → n + length (after_run a) ≡ size → WordAt a n p.Define size

stops_include : (a : Text) → first_run a ≡ codes "include" → Stops a
stops_include a e = stops_run a 105 (codes "nclude") e

stops_define : (a : Text) → first_run a ≡ codes "define" → Stops a
stops_define a e = stops_run a 100 (codes "efine") e

pub word_at : (t a : Text) (n : ℕ) (piece : Piece) → SkipsTo t a → IsDirective (35 ∷ t) n piece → WordAt a n piece (suc (length t))
word_at t a n piece to (d.IsDirective.include {a = b} {rest = rest} skips word after size) =
    subst (λ (x : Text). WordAt x n p.Include (suc (length t))) (sym (skips_same t a b to.skips skips to.stops (stops_include b word))) (include rest word after size)
word_at t a n piece to (d.IsDirective.define {a = b} skips word after size) =
    subst (λ (x : Text). WordAt x n p.Define (suc (length t))) (sym (skips_same t a b to.skips skips to.stops (stops_define b word))) (define word after size)

pub line_is : (line : Text) → 0 < length line → slice_index line 0 ≡ 35 → line ≡ 35 ∷ drop 1 line
line_is [] some e = absurd (omega arith)
line_is (b ∷ t) some e = ap (λ (x : ℕ). x ∷ t) e

-- the same line is the same directive
one_rest : (t one other : Text) → Included t one → Included t other → one ≡ other
one_rest t one other (d.Included.included {a = a} skips header close ends) second =
    let at = included_at t a other (record { skips = skips; stops = stops_header a header }) second in
    tails (sym close ∙ at.close)
  where
    tails : 62 ∷ one ≡ 62 ∷ other → one ≡ other
    tails e = cc

same_word : (a : Text) (n k : ℕ) (x y : Piece) (size : ℕ) → WordAt a n x size → WordAt a k y size → SamePiece n k x y
same_word a n k x y size (include rest word after length_is) (include other_rest other_word other_behind other_length_is) =
    let same = ap length (one_rest (after_run a) rest other_rest after other_behind) in record { length_is = omega (arith, same, length_is, other_length_is); piece_is = refl }
same_word a n k x y size (define word after length_is) (define other_word other_behind other_length_is) =
    record { length_is = omega (arith, length_is, other_length_is); piece_is = refl }
same_word a n k x y size (include rest word after length_is) (define other_word other_behind other_length_is) = absurd (apart (sym word ∙ other_word))
  where
    apart : codes "include" ≡ codes "define" → ⊥
    apart e = omega (arith, ap (λ (t : Text). slice_index t 0) e)
same_word a n k x y size (define word after length_is) (include rest other_word other_behind other_length_is) = absurd (apart (sym other_word ∙ word))
  where
    apart : codes "include" ≡ codes "define" → ⊥
    apart e = omega (arith, ap (λ (t : Text). slice_index t 0) e)

pub one_directive : (line : Text) (n k : ℕ) (x y : Piece) → IsDirective line n x → IsDirective line k y → SamePiece n k x y
one_directive line n k x y (d.IsDirective.include {t = t} {a = a} {rest = rest} skips word after size) second =
    same_word a n k p.Include y (suc (length t)) (include rest word after size) (word_at t a k y (record { skips = skips; stops = stops_include a word }) second)
one_directive line n k x y (d.IsDirective.define {t = t} {a = a} skips word after size) second =
    same_word a n k p.Define y (suc (length t)) (define word after size) (word_at t a k y (record { skips = skips; stops = stops_define a word }) second)

-- the first token of a directive lies on its line
pub directive_within : (line : Text) (n : ℕ) (piece : Piece) → IsDirective line n piece → (0 < n) × (n ≤ length line)
directive_within line n piece (d.IsDirective.include {t = t} {a = a} {rest = rest} skips word after size) =
    let shorter = skips_shorter t a skips in let less = included_shorter (after_run a) rest after in let cut = length-drop (run is_word a) a in
    (omega (arith, shorter, less, cut, size), omega (arith, size))
  where
    included_shorter : (u r : Text) → Included u r → length r ≤ length u
    included_shorter u r (d.Included.included {a = b} first header close ends) = omega (arith, skips_shorter u b first, length-drop (run is_inside b) b, ap length close)
directive_within line n piece (d.IsDirective.define {t = t} {a = a} skips word after size) =
    let shorter = skips_shorter t a skips in let cut = length-drop (run is_word a) a in (omega (arith, shorter, cut, size), omega (arith, size))

-- ---- what the code tests

pub stops_at : (t : Text) (n : ℕ) (piece : Piece) → Longest t n piece → is_space piece ≡ false → Stops t
stops_at t n piece longest is k other other_longest other_is =
    let same = one_longest t n k piece other longest other_longest in let e = ap is_space same.piece_is in cc

pub stops_empty : (t : Text) → length t ≡ 0 → Stops t
stops_empty [] e = stops_end
stops_empty (b ∷ t) e = absurd (omega arith)

pub never : {P : Type 0} → IsTrue false → P
never e = absurd (let no_ : false ≡ true = e in cc)

zero_test : (m : ℕ) → (m == 0) ≡ true → m ≡ 0
zero_test m e = grind (arith, common_steps)

no_bytes : (t : Text) → length t ≡ 0 → t ≡ []
no_bytes [] e = refl
no_bytes (b ∷ t) e = absurd (omega arith)

pub ends_law : (t r : Text) (answer : Bool) → SkipsTo t r → answer ≡ (length r == 0) → (IsTrue answer → Skips t []) × (Skips t [] → IsTrue answer)
ends_law t r answer to e = (
  (λ f. ends_none t r to (no_bytes r (zero_test (length r) (sym e ∙ f)))),
  (λ f. let none : r ≡ [] = ends_rest t r to f in e ∙ ap (λ (x : Text). length x == 0) none),
)

pub defined_law : {E : Type 0} (r : Result Bool E) (line front value : Text) → SkipsTo line front → SkipsTo (after_run front) value → IsWord (first_run front)
    → SpellsNumber (first_run value) → IfOk r (λ answer. IsTrue answer ↔ Skips (after_run value) []) → IfOk r (λ answer. IsTrue answer ↔ Defined line)
defined_law (Err error) line front value to after name number is = is
defined_law (Ok answer) line front value to after name number is =
    ((λ f. d.Defined.defined to.skips name after.skips number (is.0 f)), (λ f. is.1 (number_at line front value to after f).ends))

outside : (b : ℕ) → is_inside b ≡ false → b ≡ 62
unfolding is_inside
outside b e = grind (arith, common_steps)

CloseAt : Text → ℕ → Type 0
CloseAt a n = 0 < length (drop n a) → drop n a ≡ 62 ∷ drop 1 (drop n a)

close_by : (b n : ℕ) (u : Text) (x : Bool) → is_inside b ≡ x → CloseAt u n → CloseAt (b ∷ u) (if x then suc n else 0)
unfolding CloseAt
close_by b n u true e tail some = tail some
close_by b n u false e tail some = ap (λ (x : ℕ). x ∷ u) (outside b e)

closes_at : (a : Text) → CloseAt a (run is_inside a)
unfolding run CloseAt
closes_at [] some = absurd (omega arith)
closes_at (b ∷ u) some = close_by b (run is_inside u) u (is_inside b) refl (closes_at u) some

pub close_at : (a : Text) → 0 < length (drop (run is_inside a) a) → drop (run is_inside a) a ≡ 62 ∷ drop 1 (drop (run is_inside a) a)
unfolding CloseAt
close_at a = closes_at a

pub no_close : (line a : Text) → SkipsTo line a → length (drop (run is_inside a) a) ≡ 0 → (rest : Text) → Included line rest → ⊥
no_close line a to e rest h = let at = included_at line a rest to h in omega (arith, e, ap length at.close)

pub no_header : (line a : Text) → SkipsTo line a → (IsHeader (take (run is_inside a) a) → ⊥) → (rest : Text) → Included line rest → ⊥
no_header line a to none rest h = none (included_at line a rest to h).header

pub no_end : (line a : Text) → SkipsTo line a → (Skips (drop 1 (drop (run is_inside a) a)) [] → ⊥) → (rest : Text) → Included line rest → ⊥
no_end line a to none rest h = let at = included_at line a rest to h in
    none (subst (λ (x : Text). Skips x []) (sym (ap (drop 1) at.close)) at.ends)

pub is_included : (line a : Text) → SkipsTo line a → 0 < length (drop (run is_inside a) a) → IsHeader (take (run is_inside a) a) → Skips (drop 1 (drop (run is_inside a) a)) []
    → Included line (drop 1 (drop (run is_inside a) a))
is_included line a to some header ends = d.Included.included to.skips header (close_at a some) ends

pub found_include : (line a rest : Text) → 0 < length line → slice_index line 0 ≡ 35 → SkipsTo (drop 1 line) a → first_run a ≡ codes "include" → Included (after_run a) rest
    → length rest ≤ length (after_run a) → IsDirective line (length line - length rest) p.Include
found_include line a rest some hash to word after shorter =
    let short = skips_shorter (drop 1 line) a to.skips in let cut = length-drop (run is_word a) a in let tail = length-drop 1 line in
    subst (λ (x : Text). IsDirective x (length line - length rest) p.Include) (sym (line_is line some hash))
    (d.IsDirective.include to.skips word after (omega (arith, short, cut, tail, shorter)))

pub found_define : (line a : Text) → 0 < length line → slice_index line 0 ≡ 35 → SkipsTo (drop 1 line) a → first_run a ≡ codes "define" → Defined (after_run a)
    → IsDirective line (length line - length (after_run a)) p.Define
found_define line a some hash to word after =
    let short = skips_shorter (drop 1 line) a to.skips in let cut = length-drop (run is_word a) a in let tail = length-drop 1 line in
    subst (λ (x : Text). IsDirective x (length line - length (after_run a)) p.Define) (sym (line_is line some hash))
    (d.IsDirective.define to.skips word after (omega (arith, short, cut, tail)))

word_of : (line a : Text) (n : ℕ) (piece : Piece) → 0 < length line → slice_index line 0 ≡ 35 → SkipsTo (drop 1 line) a → IsDirective line n piece
    → WordAt a n piece (suc (length (drop 1 line)))
word_of line a n piece some hash to h = word_at (drop 1 line) a n piece to (subst (λ (x : Text). IsDirective x n piece) (line_is line some hash) h)

apart_words : codes "include" ≡ codes "define" → ⊥
apart_words e = omega (arith, ap (λ (t : Text). slice_index t 0) e)

no_include_word : (a : Text) (n size : ℕ) (piece : Piece) → first_run a ≡ codes "include" → ((rest : Text) → Included (after_run a) rest → ⊥) → WordAt a n piece size → ⊥
no_include_word a n size piece word none (include rest other after length_is) = none rest after
no_include_word a n size piece word none (define other after length_is) = apart_words (sym word ∙ other)

no_define_word : (a : Text) (n size : ℕ) (piece : Piece) → (first_run a ≡ codes "include" → ⊥) → (Defined (after_run a) → ⊥) → WordAt a n piece size → ⊥
no_define_word a n size piece other none (include rest word after length_is) = other word
no_define_word a n size piece other none (define word after length_is) = none after

no_word_at : (a : Text) (n size : ℕ) (piece : Piece) → (first_run a ≡ codes "include" → ⊥) → (first_run a ≡ codes "define" → ⊥) → WordAt a n piece size → ⊥
no_word_at a n size piece not_include not_define (include rest word after length_is) = not_include word
no_word_at a n size piece not_include not_define (define word after length_is) = not_define word

pub no_include : (line a : Text) → 0 < length line → slice_index line 0 ≡ 35 → SkipsTo (drop 1 line) a → first_run a ≡ codes "include"
    → ((rest : Text) → Included (after_run a) rest → ⊥) → NoDirective line
no_include line a some hash to word none n piece h = no_include_word a n (suc (length (drop 1 line))) piece word none (word_of line a n piece some hash to h)

pub no_define : (line a : Text) → 0 < length line → slice_index line 0 ≡ 35 → SkipsTo (drop 1 line) a → (first_run a ≡ codes "include" → ⊥) → (Defined (after_run a) → ⊥) → NoDirective line
no_define line a some hash to other none n piece h = no_define_word a n (suc (length (drop 1 line))) piece other none (word_of line a n piece some hash to h)

pub no_word : (line a : Text) → 0 < length line → slice_index line 0 ≡ 35 → SkipsTo (drop 1 line) a → (first_run a ≡ codes "include" → ⊥) → (first_run a ≡ codes "define" → ⊥) → NoDirective line
no_word line a some hash to not_include not_define n piece h = no_word_at a n (suc (length (drop 1 line))) piece not_include not_define (word_of line a n piece some hash to h)
