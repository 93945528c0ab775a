-- Lemmas on the words of a command line.
use Rattle.std.proofs.Common.{◌≡◌, ◌≢◌, ℕ, ◌<◌, ◌≤◌, ◌^◌, Bool, true, List, [], ◌∷◌, length, map, get_or, Result, Ok, Err, refl, ap, arith, ◌||◌}
use Rattle.std.specs.Prelude.{IsTrue, SomeIff}
use Rattle.std.specs.Result.{result_ok}
use Rattle.std.specs.List.{list_any}
use Rattle.std.specs.Str.{all_ascii_digits}
use Rattle.std.specs.Str.Parse.{ParsesUnsigned, digits_value}
use Rattle.std.proofs.lemmas.Str.Parse.{IsNumeralModel, numerals_by_value, tells_all_ascii_digits, parse_plain}
use Rattle.std.proofs.lemmas.Bool.Decides.{nat_tests}
use Rattle.c11_commands.specs.Words.{pairs_of, is_numeral}

-- fewer than two words make no pair
pub pairs_of-short : (words : List (List ℕ)) → length words < 2 → pairs_of words ≡ []
pairs_of-short [] short = refl
pairs_of-short (name ∷ []) short = refl
pairs_of-short (name ∷ value ∷ more) short = absurd (omega arith)

-- a test of what is after references
pub list_any-map : {X Y : Type 0} (test : Y → Bool) (f : X → Y) (xs : List X) → list_any test (map f xs) ≡ list_any (λ x. test (f x)) xs
list_any-map test f [] = refl
list_any-map test f (x ∷ xs) = ap (λ rest. test (f x) || rest) (list_any-map test f xs)

-- std's reading of a decimal is the number of the digits
digits : IsNumeralModel (λ ds. all_ascii_digits ds ≡ true) (digits_value 10)
digits = numerals_by_value _ tells_all_ascii_digits

-- 1 to 20 digits are a numeral
numeral_from : (bs : List ℕ) → all_ascii_digits bs ≡ true → 0 < length bs → length bs ≤ 20 → is_numeral bs ≡ true
numeral_from bs each some short = grind (arith, nat_tests)

-- and a numeral is that
numeral_is : (bs : List ℕ) → is_numeral bs ≡ true → (all_ascii_digits bs ≡ true) × (0 < length bs)
numeral_is bs numeral = grind (arith, nat_tests)

-- what is read of at most 20 bytes without a plus in front
pub number_of-parse : {E : Type 0} (bs : List ℕ) (r : Result ℕ E) → ParsesUnsigned 64 10 bs r → get_or bs 0 0 ≢ 43 → length bs ≤ 20
    → SomeIff (result_ok r) (IsTrue (is_numeral bs) × (digits_value 10 bs < 2 ^ 64)) (digits_value 10 bs)
number_of-parse {E} bs (Ok n) parses no_plus short =
    let h = parse_plain digits {E = E} 64 bs (Ok n) parses no_plus in ((numeral_from bs h.0.0 h.0.1 short, h.0.2), h.1)
number_of-parse bs (Err e) parses no_plus short =
    let h = parse_plain digits 64 bs (Err e) parses no_plus in λ p. let d = numeral_is bs p.0 in h (d.0, d.1, p.1)
