-- A number is read in one way.
use Rattle.std.proofs.Common.{◌≡◌, ◌≢◌, ◌≤◌, ◌<◌, ℕ, zero, suc, ◌+◌, ◌*◌, ◌^◌, add-one, ◌==◌, ◌||◌, ◌&&◌, Bool, true, false, [], ◌∷◌, ◌++◌, length, take, drop, List, Option, Some, None, option_map, refl, sym, ap, subst, ◌∙◌, arith, if◌then◌else◌, ◌⊎◌, inl, inr, ⊎_elim, ℤ, pos, IsTrue, is_some, take-append-drop, get_or, slice_index}
use Rattle.std.proofs.lemmas.Grind.{common_steps}
use Rattle.std.proofs.lemmas.Int.{ints}
use Rattle.std.proofs.Math.Seq.{take-append_seam, drop-append_seam}
use Rattle.std.proofs.Math.Nat.{mul-le-mul_left}
use Rattle.std.specs.Char.{digit_value}
use Rattle.std.specs.Str.Parse.{digits_value_after}
use Rattle.c11_num.specs.Ranges.{IsInRange, TypedNumber}
use Rattle.c11_num.specs.declared.value.CType.{CType}
use Rattle.c11_num.specs.declared.value.CType.TheVariants as c
use Rattle.c11_lexer.specs.declared.number.Base.{Base}
use Rattle.c11_lexer.specs.declared.number.Base.TheVariants as b
use Rattle.c11_lexer.specs.declared.number.Suffix.{Suffix}
use Rattle.c11_lexer.specs.declared.number.Suffix.TheVariants as x
use Rattle.c11_lexer.specs.Pieces.{Text, Every}
use Rattle.c11_lexer.specs.Pieces as s
use Rattle.c11_lexer.specs.Numbers.{radix, is_digit_of, is_u, is_l, suffix_of, Spelled, IsNumber, FirstHolding, types_of, IsLiteral, SpellsNumber}
use Rattle.c11_lexer.specs.Numbers as n
use Rattle.c11_lexer.specs.Pieces.{run}
use Rattle.c11_lexer.specs.Reading.{spelled, based, hexed, after_zero, number_of}
use Rattle.c11_lexer.proofs.Longest.{run_is}

either_true : (x y : Bool) → (x || y) ≡ true → (x ≡ true) ⊎ (y ≡ true)
either_true true y e = inl refl
either_true false y e = inr e

test_is : (d n : ℕ) → (d == n) ≡ true → d ≡ n
test_is d n e = grind (arith, common_steps)

-- ---- what a suffix begins with is no digit

both_true : (x y : Bool) → (x && y) ≡ true → (x ≡ true) × (y ≡ true)
both_true true true e = (refl, refl)
both_true true false e = cc
both_true false y e = cc

letter_not : (base : Base) → (is_digit_of base 117 ≡ false) × (is_digit_of base 85 ≡ false) × (is_digit_of base 108 ≡ false) × (is_digit_of base 76 ≡ false)
unfolding is_digit_of
letter_not b.Decimal = (refl, refl, refl, refl)
letter_not b.Octal = (refl, refl, refl, refl)
letter_not b.Hexadecimal = (refl, refl, refl, refl)

u_not : (base : Base) (d : ℕ) → is_u d ≡ true → is_digit_of base d ≡ false
unfolding is_u
u_not base d e = ⊎_elim (λ (f : (d == 117) ≡ true). subst (λ (x : ℕ). is_digit_of base x ≡ false) (sym (test_is d 117 f)) (letter_not base).0)
    (λ (f : (d == 85) ≡ true). subst (λ (x : ℕ). is_digit_of base x ≡ false) (sym (test_is d 85 f)) (letter_not base).1) (either_true (d == 117) (d == 85) e)

l_not : (base : Base) (d : ℕ) → is_l d ≡ true → is_digit_of base d ≡ false
unfolding is_l
l_not base d e = ⊎_elim (λ (f : (d == 108) ≡ true). subst (λ (x : ℕ). is_digit_of base x ≡ false) (sym (test_is d 108 f)) (letter_not base).2)
    (λ (f : (d == 76) ≡ true). subst (λ (x : ℕ). is_digit_of base x ≡ false) (sym (test_is d 76 f)) (letter_not base).3) (either_true (d == 108) (d == 76) e)

run_stops : (test : ℕ → Bool) (d : ℕ) (t : Text) → test d ≡ false → run test (d ∷ t) ≡ 0
unfolding run
run_stops test d t e = rw e refl

run_empty : (test : ℕ → Bool) → run test [] ≡ 0
unfolding run
run_empty test = refl

run_append : (test : ℕ → Bool) (t ending : Text) → Every test t → run test ending ≡ 0 → run test (t ++ ending) ≡ length t
unfolding run
run_append test [] ending s.Every.none e = e
run_append test (d ∷ t) ending (s.Every.more f all) e = rw f (ap suc (run_append test t ending all e))

chosen : {A : Type 0} (x : Bool) (a c d : A) → (if x then a else c) ≡ d → ((x ≡ true) × (a ≡ d)) ⊎ ((x ≡ false) × (c ≡ d))
chosen true a c d e = inl (refl, e)
chosen false a c d e = inr (refl, e)

none_some : {A : Type 0} {B : Type 0} (x : A) → ◌≡◌ {A = Option A} None (Some x) → B
none_some x e = absurd (let no_ : None ≡ Some x = e in cc)

suffix_stops : (base : Base) (ending : Text) (suffix : Suffix) → suffix_of ending ≡ Some suffix → run (is_digit_of base) ending ≡ 0
unfolding suffix_of
suffix_stops base [] suffix e = run_empty (is_digit_of base)
suffix_stops base (d ∷ []) suffix e =
    ⊎_elim (λ (f : (is_u d ≡ true) × (Some x.U ≡ Some suffix)). run_stops (is_digit_of base) d [] (u_not base d f.0))
    (λ (f : (is_u d ≡ false) × ((if is_l d then Some x.L else None) ≡ Some suffix)). ⊎_elim (λ (g : (is_l d ≡ true) × (Some x.L ≡ Some suffix)). run_stops (is_digit_of base) d [] (l_not base d g.0))
    (λ (g : (is_l d ≡ false) × (None ≡ Some suffix)). none_some suffix g.1) (chosen (is_l d) (Some x.L) None (Some suffix) f.1))
    (chosen (is_u d) (Some x.U) (if is_l d then Some x.L else None) (Some suffix) e)
suffix_stops base (d ∷ f ∷ []) suffix e =
    ⊎_elim (λ (g : (((is_u d && is_l f) || (is_l d && is_u f)) ≡ true) × (Some x.UL ≡ Some suffix)).
    ⊎_elim (λ (h : (is_u d && is_l f) ≡ true). run_stops (is_digit_of base) d (f ∷ []) (u_not base d (both_true (is_u d) (is_l f) h).0))
    (λ (h : (is_l d && is_u f) ≡ true). run_stops (is_digit_of base) d (f ∷ []) (l_not base d (both_true (is_l d) (is_u f) h).0)) (either_true (is_u d && is_l f) (is_l d && is_u f) g.0))
    (λ (g : (((is_u d && is_l f) || (is_l d && is_u f)) ≡ false) × (None ≡ Some suffix)). none_some suffix g.1)
    (chosen ((is_u d && is_l f) || (is_l d && is_u f)) (Some x.UL) None (Some suffix) e)
suffix_stops base (d ∷ f ∷ g ∷ t) suffix e = none_some suffix e

-- ---- digits and a suffix

spelled_append : (base : Base) (digits ending : Text) (suffix : Suffix) → Every (is_digit_of base) digits → suffix_of ending ≡ Some suffix
    → spelled base (digits ++ ending) ≡ Some (digits, suffix)
spelled_append base digits ending suffix all e =
    let long : run (is_digit_of base) (digits ++ ending) ≡ length digits = run_append (is_digit_of base) digits ending all (suffix_stops base ending suffix e) in
    rw (long, take-append_seam, drop-append_seam, e) refl

pub spelled_reads : (base : Base) (t digits : Text) (suffix : Suffix) → Spelled base t digits suffix → spelled base t ≡ Some (digits, suffix)
spelled_reads base t digits suffix h = subst (λ (x : Text). spelled base x ≡ Some (digits, suffix)) (sym h.split) (spelled_append base digits h.ending suffix h.all h.suffix_is)

mapped : {A B : Type 0} (f : A → B) (o : Option A) (y : B) → option_map f o ≡ Some y → (x : A) × (o ≡ Some x) × (f x ≡ y)
mapped f None y e = none_some y e
mapped f (Some x) y e = (x, refl, cc)

pub spelled_is : (base : Base) (t : Text) (found : Text × Suffix) → spelled base t ≡ Some found → Spelled base t found.0 found.1
spelled_is base t found e =
    let n : ℕ = run (is_digit_of base) t in
    let m = mapped (λ suffix. (take n t, suffix)) (suffix_of (drop n t)) found e in
    subst (λ (x : Text × Suffix). Spelled base t x.0 x.1) m.2
    (record { ending = drop n t; split = sym (take-append-drop n t); all = run_is (is_digit_of base) t; suffix_is = m.1 })

-- ---- a `0x` begins no octal number

x_ends : (d : ℕ) (u : Text) → (d ≡ 120) ⊎ (d ≡ 88) → suffix_of (d ∷ u) ≡ None
unfolding suffix_of is_u is_l
x_ends d [] e = ⊎_elim (λ (f : d ≡ 120). rw f refl) (λ (f : d ≡ 88). rw f refl) e
x_ends d (f ∷ []) e = ⊎_elim (λ (g : d ≡ 120). rw g refl) (λ (g : d ≡ 88). rw g refl) e
x_ends d (f ∷ g ∷ u) e = refl

x_octal : (d : ℕ) → (d ≡ 120) ⊎ (d ≡ 88) → is_digit_of b.Octal d ≡ false
unfolding is_digit_of
x_octal d e = ⊎_elim (λ (f : d ≡ 120). rw f refl) (λ (f : d ≡ 88). rw f refl) e

false_true : (x : Bool) → x ≡ false → x ≡ true → ⊥
false_true x e f = cc

first_digit : (test : ℕ → Bool) (d e : ℕ) (u t rest : Text) → d ∷ u ≡ (e ∷ t) ++ rest → Every test (e ∷ t) → test d ≡ true
first_digit test d e u t rest same (s.Every.more is all) = let heads : d ≡ e = cc in ap test heads ∙ is

x_no_octal : (d : ℕ) (u digits : Text) (suffix : Suffix) → (d ≡ 120) ⊎ (d ≡ 88) → Spelled b.Octal (d ∷ u) digits suffix → ⊥
x_no_octal d u [] suffix e h = none_some suffix (sym (x_ends d u e) ∙ (ap suffix_of h.split ∙ h.suffix_is))
x_no_octal d u (f ∷ digits) suffix e h = false_true (is_digit_of b.Octal d) (x_octal d e) (first_digit (is_digit_of b.Octal) d f u digits h.ending h.split h.all)

-- ---- numbers

test_false : (d n : ℕ) → d ≢ n → (d == n) ≡ false
test_false d n e = grind (arith, common_steps)

x_test : (d : ℕ) → (d ≡ 120) ⊎ (d ≡ 88) → (d == 120 || d == 88) ≡ true
x_test d e = ⊎_elim (λ (f : d ≡ 120). rw f refl) (λ (f : d ≡ 88). rw f refl) e

x_is : (d : ℕ) → (d == 120 || d == 88) ≡ true → (d ≡ 120) ⊎ (d ≡ 88)
x_is d e = ⊎_elim (λ (f : (d == 120) ≡ true). inl (test_is d 120 f)) (λ (f : (d == 88) ≡ true). inr (test_is d 88 f)) (either_true (d == 120) (d == 88) e)

x_test_not : (x : Bool) → (x ≡ true → ⊥) → x ≡ false
x_test_not true e = absurd (e refl)
x_test_not false e = refl

octal_reads : (t digits : Text) (suffix : Suffix) → Spelled b.Octal t digits suffix → after_zero t ≡ Some (b.Octal, digits, suffix)
unfolding after_zero
octal_reads [] digits suffix h = ap (based b.Octal) (spelled_reads b.Octal [] digits suffix h)
octal_reads (d ∷ u) digits suffix h =
    let not_x : (d == 120 || d == 88) ≡ false = x_test_not (d == 120 || d == 88) (λ e. x_no_octal d u digits suffix (x_is d e) h) in
    rw not_x (ap (based b.Octal) (spelled_reads b.Octal (d ∷ u) digits suffix h))

hexadecimal_reads : (d : ℕ) (t digits : Text) (suffix : Suffix) → (d ≡ 120) ⊎ (d ≡ 88) → 0 < length digits → Spelled b.Hexadecimal t digits suffix
    → after_zero (d ∷ t) ≡ Some (b.Hexadecimal, digits, suffix)
unfolding after_zero
hexadecimal_reads d t digits suffix e some h =
    let some_test : (length digits == 0) ≡ false = grind (arith, common_steps) in
    rw (x_test d e) (ap hexed (spelled_reads b.Hexadecimal t digits suffix h) ∙ rw some_test refl)

decimal_reads : (d : ℕ) (t digits : Text) (suffix : Suffix) → d ≢ 48 → is_digit_of b.Decimal d ≡ true → Spelled b.Decimal (d ∷ t) digits suffix
    → number_of (d ∷ t) ≡ Some (b.Decimal, digits, suffix)
unfolding number_of
decimal_reads d t digits suffix not_zero is h = rw (test_false d 48 not_zero, is) (ap (based b.Decimal) (spelled_reads b.Decimal (d ∷ t) digits suffix h))

pub number_reads : (t : Text) (base : Base) (digits : Text) (suffix : Suffix) → IsNumber t base digits suffix → number_of t ≡ Some (base, digits, suffix)
unfolding number_of
number_reads t base digits suffix (n.IsNumber.decimal {d = d} {t = u} not_zero is h) = decimal_reads d u digits suffix not_zero is h
number_reads t base digits suffix (n.IsNumber.octal {t = u} h) = octal_reads u digits suffix h
number_reads t base digits suffix (n.IsNumber.hexadecimal {d = d} {t = u} e some h) = hexadecimal_reads d u digits suffix e some h

Found : Text → Base × Text × Suffix → Type 0
Found t x = IsNumber t x.0 x.1 x.2

based_is : (base : Base) (o : Option (Text × Suffix)) (x : Base × Text × Suffix) → based base o ≡ Some x → (found : Text × Suffix) × (o ≡ Some found) × ((base, found.0, found.1) ≡ x)
based_is base None x e = none_some x e
based_is base (Some found) x e = (found, refl, cc)

octal_is : (t : Text) (x : Base × Text × Suffix) → based b.Octal (spelled b.Octal t) ≡ Some x → Found (48 ∷ t) x
unfolding Found
octal_is t x e = let m = based_is b.Octal (spelled b.Octal t) x e in subst (λ (y : Base × Text × Suffix). IsNumber (48 ∷ t) y.0 y.1 y.2) m.2 (n.IsNumber.octal (spelled_is b.Octal t m.0 m.1))

hexed_is : (o : Option (Text × Suffix)) (x : Base × Text × Suffix) → hexed o ≡ Some x → (found : Text × Suffix) × (o ≡ Some found) × (0 < length found.0) × ((b.Hexadecimal, found.0, found.1) ≡ x)
hexed_is None x e = none_some x e
hexed_is (Some found) x e =
    ⊎_elim (λ (f : ((length found.0 == 0) ≡ true) × (None ≡ Some x)). none_some x f.1)
    (λ (f : ((length found.0 == 0) ≡ false) × (Some (b.Hexadecimal, found.0, found.1) ≡ Some x)). let some : 0 < length found.0 = some_is (length found.0) f.0 in (found, refl, some, let same = f.1 in cc))
    (chosen (length found.0 == 0) None (Some (b.Hexadecimal, found.0, found.1)) (Some x) e)
  where
    some_is : (m : ℕ) → (m == 0) ≡ false → 0 < m
    some_is m f = grind (arith, common_steps)

hexadecimal_is : (d : ℕ) (t : Text) (x : Base × Text × Suffix) → (d ≡ 120) ⊎ (d ≡ 88) → hexed (spelled b.Hexadecimal t) ≡ Some x → Found (48 ∷ d ∷ t) x
unfolding Found
hexadecimal_is d t x e f = let m = hexed_is (spelled b.Hexadecimal t) x f in
    subst (λ (y : Base × Text × Suffix). IsNumber (48 ∷ d ∷ t) y.0 y.1 y.2) m.3 (n.IsNumber.hexadecimal e m.2 (spelled_is b.Hexadecimal t m.0 m.1))

after_zero_is : (t : Text) (x : Base × Text × Suffix) → after_zero t ≡ Some x → Found (48 ∷ t) x
unfolding after_zero
after_zero_is [] x e = octal_is [] x e
after_zero_is (d ∷ t) x e =
    ⊎_elim (λ (f : ((d == 120 || d == 88) ≡ true) × (hexed (spelled b.Hexadecimal t) ≡ Some x)). hexadecimal_is d t x (x_is d f.0) f.1)
    (λ (f : ((d == 120 || d == 88) ≡ false) × (based b.Octal (spelled b.Octal (d ∷ t)) ≡ Some x)). octal_is (d ∷ t) x f.1)
    (chosen (d == 120 || d == 88) (hexed (spelled b.Hexadecimal t)) (based b.Octal (spelled b.Octal (d ∷ t))) (Some x) e)

test_not : (d n : ℕ) → (d == n) ≡ false → d ≢ n
test_not d n e f = grind (arith, common_steps)

decimal_is : (d : ℕ) (t : Text) (x : Base × Text × Suffix) → d ≢ 48 → is_digit_of b.Decimal d ≡ true → based b.Decimal (spelled b.Decimal (d ∷ t)) ≡ Some x → Found (d ∷ t) x
unfolding Found
decimal_is d t x not_zero is e = let m = based_is b.Decimal (spelled b.Decimal (d ∷ t)) x e in
    subst (λ (y : Base × Text × Suffix). IsNumber (d ∷ t) y.0 y.1 y.2) m.2 (n.IsNumber.decimal not_zero is (spelled_is b.Decimal (d ∷ t) m.0 m.1))

found_is : (t : Text) (x : Base × Text × Suffix) → number_of t ≡ Some x → Found t x
unfolding number_of
found_is [] x e = none_some x e
found_is (d ∷ t) x e =
    ⊎_elim (λ (f : ((d == 48) ≡ true) × (after_zero t ≡ Some x)). subst (λ (y : ℕ). Found (y ∷ t) x) (sym (test_is d 48 f.0)) (after_zero_is t x f.1))
    (λ (f : ((d == 48) ≡ false) × ((if is_digit_of b.Decimal d then based b.Decimal (spelled b.Decimal (d ∷ t)) else None) ≡ Some x)).
    ⊎_elim (λ (g : (is_digit_of b.Decimal d ≡ true) × (based b.Decimal (spelled b.Decimal (d ∷ t)) ≡ Some x)). decimal_is d t x (test_not d 48 f.0) g.0 g.1)
    (λ (g : (is_digit_of b.Decimal d ≡ false) × (None ≡ Some x)). none_some x g.1)
    (chosen (is_digit_of b.Decimal d) (based b.Decimal (spelled b.Decimal (d ∷ t))) None (Some x) f.1))
    (chosen (d == 48) (after_zero t) (if is_digit_of b.Decimal d then based b.Decimal (spelled b.Decimal (d ∷ t)) else None) (Some x) e)

pub number_is : (t : Text) (x : Base × Text × Suffix) → number_of t ≡ Some x → IsNumber t x.0 x.1 x.2
unfolding Found
number_is t x e = found_is t x e

-- ---- values

pub after_ge : (r n : ℕ) (ds : Text) → 0 < r → n ≤ digits_value_after r n ds
after_ge r n [] some = omega arith
after_ge r n (d ∷ ds) some = omega (arith, after_ge r (n * r + digit_value d) ds some, mul-le-mul_left n some)

pub value_step : (r value i : ℕ) (ds : Text) → i < length ds → digits_value_after r value (drop i ds) ≡ digits_value_after r (value * r + digit_value (slice_index ds i)) (drop (suc i) ds)
value_step r value i [] less = absurd (omega arith)
value_step r value zero (d ∷ ds) less = refl
value_step r value (suc i) (d ∷ ds) less = value_step r value i ds (omega arith)

pub radix_some : (base : Base) → 0 < radix base
radix_some b.Decimal = omega arith
radix_some b.Octal = omega arith
radix_some b.Hexadecimal = omega arith

-- ---- types

pub here_at : (number : ℤ) (types : List CType) (i : ℕ) (d : CType) → i < length types → IsInRange (get_or types i d) number → FirstHolding number (drop i types) (get_or types i d)
here_at number [] i d less is = absurd (omega arith)
here_at number (x ∷ xs) zero d less is = n.FirstHolding.here is
here_at number (x ∷ xs) (suc i) d less is = here_at number xs i d (omega arith) is

pub later_at : (number : ℤ) (types : List CType) (i : ℕ) (d ctype : CType) → i < length types → (IsInRange (get_or types i d) number → ⊥) → FirstHolding number (drop (suc i) types) ctype
    → FirstHolding number (drop i types) ctype
later_at number [] i d ctype less is h = absurd (omega arith)
later_at number (x ∷ xs) zero d ctype less is h = n.FirstHolding.later is h
later_at number (x ∷ xs) (suc i) d ctype less is h = later_at number xs i d ctype (omega arith) is h

dropped : (number : ℤ) (other ctype : CType) (xs : List CType) → (IsInRange other number → ⊥) → FirstHolding number (other ∷ xs) ctype → FirstHolding number xs ctype
dropped number other ctype xs is (n.FirstHolding.here h) = absurd (is h)
dropped number other ctype xs is (n.FirstHolding.later h tail) = tail

pub beyond_at : (number : ℤ) (types : List CType) (i : ℕ) (d ctype : CType) → i < length types → (IsInRange (get_or types i d) number → ⊥) → FirstHolding number (drop i types) ctype
    → FirstHolding number (drop (suc i) types) ctype
beyond_at number [] i d ctype less is h = absurd (omega arith)
beyond_at number (x ∷ xs) zero d ctype less is h = dropped number x ctype xs is h
beyond_at number (x ∷ xs) (suc i) d ctype less is h = beyond_at number xs i d ctype (omega arith) is h

pub none_at_end : (number : ℤ) (types : List CType) (ctype : CType) → FirstHolding number (drop (length types) types) ctype → ⊥
none_at_end number [] ctype h = elim h [ ]
none_at_end number (x ∷ xs) ctype h = none_at_end number xs ctype h

pub holding_range : (number : ℤ) (types : List CType) (ctype : CType) → FirstHolding number types ctype → IsInRange ctype number
holding_range number types ctype (n.FirstHolding.here is) = is
holding_range number types ctype (n.FirstHolding.later {others = others} is h) = holding_range number others ctype h

pub one_type : (number : ℤ) (types : List CType) (ctype other : CType) → FirstHolding number types ctype → FirstHolding number types other → ctype ≡ other
one_type number types ctype other (n.FirstHolding.here is) (n.FirstHolding.here other_is) = refl
one_type number types ctype other (n.FirstHolding.here is) (n.FirstHolding.later no_ h) = absurd (no_ is)
one_type number types ctype other (n.FirstHolding.later no_ h) (n.FirstHolding.here is) = absurd (no_ is)
one_type number types ctype other (n.FirstHolding.later {others = xs} no_ h) (n.FirstHolding.later other_no g) = one_type number xs ctype other h g

drop_end : (ds : Text) (i : ℕ) → length ds ≤ i → drop i ds ≡ []
drop_end [] zero less = refl
drop_end [] (suc i) less = refl
drop_end (d ∷ ds) zero less = absurd (omega arith)
drop_end (d ∷ ds) (suc i) less = drop_end ds i (omega arith)

pub value_past : (r value i : ℕ) (ds : Text) → 0 < r → i < length ds → digits_value_after r value (drop i ds) ≡ digits_value_after r 0 ds
    → (value * r + digit_value (slice_index ds i) < 2 ^ 64 → ⊥) → digits_value_after r 0 ds < 2 ^ 64 → ⊥
value_past r value i ds some less e no_ small = no_ (omega (arith, value_step r value i ds less, e, after_ge r (value * r + digit_value (slice_index ds i)) (drop (suc i) ds) some))

pub value_next : (r value i : ℕ) (ds : Text) → i < length ds → digits_value_after r value (drop i ds) ≡ digits_value_after r 0 ds
    → digits_value_after r (value * r + digit_value (slice_index ds i)) (drop (i + 1) ds) ≡ digits_value_after r 0 ds
value_next r value i ds less e = rw add-one (sym (value_step r value i ds less) ∙ e)

pub value_all : (r value i : ℕ) (ds : Text) → length ds ≤ i → digits_value_after r value (drop i ds) ≡ digits_value_after r 0 ds → value ≡ digits_value_after r 0 ds
value_all r value i ds less e = sym (ap (digits_value_after r value) (drop_end ds i less)) ∙ e

-- ---- the number of a literal

pub same_number : (t : Text) (base other_base : Base) (digits other_digits : Text) (suffix other_suffix : Suffix) → number_of t ≡ Some (base, digits, suffix)
    → IsNumber t other_base other_digits other_suffix → ◌≡◌ {A = Base × Text × Suffix} (base, digits, suffix) (other_base, other_digits, other_suffix)
same_number t base other_base digits other_digits suffix other_suffix e h =
    let same : ◌≡◌ {A = Option (Base × Text × Suffix)} (Some (base, digits, suffix)) (Some (other_base, other_digits, other_suffix)) = sym e ∙ number_reads t other_base other_digits other_suffix h in
    some_is (base, digits, suffix) (other_base, other_digits, other_suffix) same
  where
    some_is : (x y : Base × Text × Suffix) → ◌≡◌ {A = Option (Base × Text × Suffix)} (Some x) (Some y) → x ≡ y
    some_is x y f = cc

pub no_literal : (t : Text) → number_of t ≡ None → (value : TypedNumber) → IsLiteral t value → ⊥
no_literal t e value h = none_some (h.base, h.digits, h.suffix) (sym e ∙ number_reads t h.base h.digits h.suffix h.is)

-- the number has the value and the list of types that were read
pub record SameRead (t : Text) (base : Base) (digits : Text) (suffix : Suffix) (value : TypedNumber) : Type 0 where
  pub number_is : value.number ≡ pos (digits_value_after (radix base) 0 digits)
  pub type_is : FirstHolding value.number (types_of base suffix) value.ctype

pub same_read : (t : Text) (base : Base) (digits : Text) (suffix : Suffix) (value : TypedNumber) → number_of t ≡ Some (base, digits, suffix) → IsLiteral t value → SameRead t base digits suffix value
same_read t base digits suffix value e h =
    let same = same_number t base h.base digits h.digits suffix h.suffix e h.is in
    record {
      number_is = h.number_is ∙ sym (ap (λ (x : Base × Text × Suffix). pos (digits_value_after (radix x.0) 0 x.1)) same);
      type_is = subst (λ (x : Base × Text × Suffix). FirstHolding value.number (types_of x.0 x.2) value.ctype) (sym same) h.type_is;
    }

pub in_64 : (ctype : CType) (n : ℕ) → IsInRange ctype (pos n) → n < 2 ^ 64
in_64 c.Int n h = omega (arith, ints, h.1)
in_64 c.Unsigned n h = omega (arith, ints, h.1)
in_64 c.Long n h = omega (arith, ints, h.1)
in_64 c.ULong n h = omega (arith, ints, h.1)

pub too_large : (t : Text) (base : Base) (digits : Text) (suffix : Suffix) → number_of t ≡ Some (base, digits, suffix) → (digits_value_after (radix base) 0 digits < 2 ^ 64 → ⊥)
    → (value : TypedNumber) → IsLiteral t value → ⊥
too_large t base digits suffix e large value h =
    let read = same_read t base digits suffix value e h in
    let range : IsInRange value.ctype value.number = holding_range value.number (types_of base suffix) value.ctype read.type_is in
    large (in_64 value.ctype (digits_value_after (radix base) 0 digits) (subst (λ (x : ℤ). IsInRange value.ctype x) read.number_is range))

pub no_type : (t : Text) (base : Base) (digits : Text) (suffix : Suffix) (n : ℕ) → number_of t ≡ Some (base, digits, suffix) → n ≡ digits_value_after (radix base) 0 digits
    → ((ctype : CType) → FirstHolding (pos n) (types_of base suffix) ctype → ⊥) → (value : TypedNumber) → IsLiteral t value → ⊥
no_type t base digits suffix n e same none value h =
    let read = same_read t base digits suffix value e h in
    none value.ctype (subst (λ (x : ℤ). FirstHolding x (types_of base suffix) value.ctype) (read.number_is ∙ sym (ap pos same)) read.type_is)

pub is_literal : (t : Text) (base : Base) (digits : Text) (suffix : Suffix) (n : ℕ) (value : TypedNumber) → number_of t ≡ Some (base, digits, suffix) → n ≡ digits_value_after (radix base) 0 digits
    → value.number ≡ pos n → FirstHolding (pos n) (types_of base suffix) value.ctype → IsLiteral t value
is_literal t base digits suffix n value e same number type_is = record {
  base = base;
  digits = digits;
  suffix = suffix;
  is = number_is t (base, digits, suffix) e;
  number_is = number ∙ ap pos same;
  type_is = subst (λ (x : ℤ). FirstHolding x (types_of base suffix) value.ctype) (sym number) type_is;
}

pub one_literal : (t : Text) (value other : TypedNumber) → IsLiteral t value → IsLiteral t other → value ≡ other
one_literal t value other h g =
    let read = same_read t h.base h.digits h.suffix other (number_reads t h.base h.digits h.suffix h.is) g in
    let number : value.number ≡ other.number = h.number_is ∙ sym read.number_is in
    let ctype : value.ctype ≡ other.ctype = one_type other.number (types_of h.base h.suffix) value.ctype other.ctype (subst (λ (x : ℤ). FirstHolding x (types_of h.base h.suffix) value.ctype) number h.type_is) read.type_is in
    λ i. record { ctype = ctype i; number = number i }

pub spells : {N : Type 0} (t : Text) (view : N → Base × Text × Suffix) (o : Option N) (answer : Bool) → option_map view o ≡ number_of t → answer ≡ is_some o
    → (IsTrue answer → SpellsNumber t) × (SpellsNumber t → IsTrue answer)
spells t view None answer e f = ((λ true_. absurd (let no_ : false ≡ true = rw f at true_ in cc)), (λ h. none_some (h.0, h.1, h.2) (e ∙ number_reads t h.0 h.1 h.2 h.3)))
spells t view (Some found) answer e f =
    ((λ _. ((view found).0, (view found).1, (view found).2, number_is t (view found) (sym e))), (λ _. rw f refl))
