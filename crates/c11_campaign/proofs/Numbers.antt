-- Numbers and the seeds that belong to them.
use Rattle.std.proofs.Common.{Bool, true, false, ◌≡◌, ℕ, zero, suc, ◌+◌, ◌<◌, ◌≤◌, List, [], ◌∷◌, ◌++◌, map, length, refl, ap, sym, subst, ◌-◌, ◌∙◌, arith, nat_eq, nat_lt, if◌then◌else◌}
use Rattle.std.proofs.lemmas.Bool.Decides.{nat_tests}
use Rattle.std.proofs.lemmas.List.{append-nil}
use Rattle.std.proofs.lemmas.List.Elements.{filter-append}
use Rattle.c11_claims.proofs.Counts.{beyond-append}
use Rattle.c11_claims.specs.Claims.{times, once_below, beyond}
use Rattle.c11_campaign.specs.Summaries.{seeds_from}
use Rattle.c11_campaign.specs.Workers.{below}

-- 1 where the numbers are equal, else 0
abbrev pub same : ℕ → ℕ → ℕ
same x y = if nat_eq x y then 1 else 0

-- ---- the seeds of numbers

shifted_eq : (first n y : ℕ) → same (first + n) (first + y) ≡ same n y
shifted_eq first n y = grind (arith, nat_tests)

pub times_shifted : (first n : ℕ) (numbers : List ℕ) → times (first + n) (map (λ (y : ℕ). first + y) numbers) ≡ times n numbers
times_shifted first n [] = refl
times_shifted first n (y ∷ ys) = omega (arith, shifted_eq first n y, times_shifted first n ys)

lower_eq : (first s y : ℕ) → s < first → same s (first + y) ≡ 0
lower_eq first s y low = grind (arith, nat_tests)

pub times_lower : (first s : ℕ) (numbers : List ℕ) → s < first → times s (map (λ (y : ℕ). first + y) numbers) ≡ 0
times_lower first s [] low = refl
times_lower first s (y ∷ ys) low = omega (arith, lower_eq first s y low, times_lower first s ys low)

other_eq : (s first : ℕ) → s < first → same s first ≡ 0
other_eq s first low = grind (arith, nat_tests)

pub seeds_lower : (first count s : ℕ) → s < first → times s (seeds_from first count) ≡ 0
seeds_lower first zero s low = refl
seeds_lower first (suc count) s low = omega (arith, other_eq s first low, seeds_lower (first + 1) count s (omega arith))

pub same_eq : (first : ℕ) → same first first ≡ 1
same_eq first = grind (arith, nat_tests)

later_eq : (first m : ℕ) → same (first + suc m) first ≡ 0
later_eq first m = grind (arith, nat_tests)

once_later : (m count : ℕ) → once_below m count ≡ once_below (suc m) (suc count)
once_later m count = grind (arith, nat_tests)

once_first : (count : ℕ) → once_below zero (suc count) ≡ 1
once_first count = grind (arith, nat_tests)

once_none : (n : ℕ) → 0 ≡ once_below n zero
once_none n = grind (arith, nat_tests)

pub seeds_once : (first count n : ℕ) → times (first + n) (seeds_from first count) ≡ once_below n count
seeds_once first zero n = once_none n
seeds_once first (suc count) zero =
    let at : first + 0 ≡ first = omega arith in
    let here : times first (first ∷ seeds_from (first + 1) count) ≡ once_below zero (suc count) = omega (arith, same_eq first, seeds_lower (first + 1) count first (omega arith), once_first count) in
    ap (λ (s : ℕ). times s (first ∷ seeds_from (first + 1) count)) at ∙ here
seeds_once first (suc count) (suc m) =
    let moved : first + suc m ≡ (first + 1) + m = omega arith in
    let rest : times (first + suc m) (seeds_from (first + 1) count) ≡ once_below m count = ap (λ (s : ℕ). times s (seeds_from (first + 1) count)) moved ∙ seeds_once (first + 1) count m in
    omega (arith, later_eq first m, rest, once_later m count)

-- where each number below the count stands once, the seeds that belong to them are those of the campaign
pub seeds_of_numbers : (first count : ℕ) (numbers : List ℕ) → ((n : ℕ) → times n numbers ≡ once_below n count) → (s : ℕ) → times s (map (λ (y : ℕ). first + y) numbers) ≡ times s (seeds_from first count)
seeds_of_numbers first count numbers once s = by (nat_lt s first) refl
  where
    by : (b : Bool) → nat_lt s first ≡ b → times s (map (λ (y : ℕ). first + y) numbers) ≡ times s (seeds_from first count)
    by true e = let low : s < first = grind (arith, nat_tests) in times_lower first s numbers low ∙ sym (seeds_lower first count s low)
    by false e =
        let high : first ≤ s = grind (arith, nat_tests) in
        let at : first + (s - first) ≡ s = omega arith in
        subst (λ (t : ℕ). times t (map (λ (y : ℕ). first + y) numbers) ≡ times t (seeds_from first count)) at
        (times_shifted first (s - first) numbers ∙ (once (s - first) ∙ sym (seeds_once first count (s - first))))

-- ---- numbers below a count

pub below-append : (count : ℕ) (xs ys : List ℕ) → below count (xs ++ ys) ≡ below count xs ++ below count ys
below-append count xs ys = filter-append (λ n. nat_lt n count) xs ys

-- where none is beyond, all are below
pub below_all : (count : ℕ) (xs : List ℕ) → beyond count xs ≡ 0 → below count xs ≡ xs
below_all count [] none = refl
below_all count (x ∷ xs) none = by (nat_lt x count) refl (below_all count xs (omega arith))
  where
    by : (b : Bool) → nat_lt x count ≡ b → below count xs ≡ xs → below count (x ∷ xs) ≡ x ∷ xs
    by true e rest = rw e (ap (λ (ys : List ℕ). x ∷ ys) rest)
    by false e rest = absurd (grind (arith, nat_tests))

-- one that is not below the count
pub below_no : (count m : ℕ) → count ≤ m → below count (m ∷ []) ≡ []
below_no count m above = by (nat_lt m count) refl
  where
    by : (b : Bool) → nat_lt m count ≡ b → below count (m ∷ []) ≡ []
    by true e = absurd (grind (arith, nat_tests))
    by false e = rw e refl

pub below_more : (count : ℕ) (xs : List ℕ) (m : ℕ) → beyond count xs ≡ 0 → count ≤ m → below count (xs ++ m ∷ []) ≡ xs
below_more count xs m none above = below-append count xs (m ∷ []) ∙ (ap (λ (ys : List ℕ). below count xs ++ ys) (below_no count m above) ∙ (append-nil (below count xs) ∙ below_all count xs none))

beyond_yes : (count m : ℕ) → count ≤ m → beyond count (m ∷ []) ≡ 1
beyond_yes count m above = grind (arith, nat_tests)

pub beyond_more : (count : ℕ) (xs : List ℕ) (m : ℕ) → count ≤ m → 0 < beyond count (xs ++ m ∷ [])
beyond_more count xs m above = omega (arith, beyond-append count xs (m ∷ []), beyond_yes count m above)

-- how often a number stands among those below the count
pub times_below_yes : (count n : ℕ) (xs : List ℕ) → n < count → times n (below count xs) ≡ times n xs
times_below_yes count n [] low = refl
times_below_yes count n (x ∷ xs) low = by (nat_lt x count) refl (times_below_yes count n xs low)
  where
    by : (b : Bool) → nat_lt x count ≡ b → times n (below count xs) ≡ times n xs → times n (below count (x ∷ xs)) ≡ times n (x ∷ xs)
    by true e rest = rw e (omega (arith, rest))
    by false e rest = let other : same n x ≡ 0 = grind (arith, nat_tests) in rw e (omega (arith, other, rest))

pub times_below_no : (count n : ℕ) (xs : List ℕ) → count ≤ n → times n (below count xs) ≡ 0
times_below_no count n [] high = refl
times_below_no count n (x ∷ xs) high = by (nat_lt x count) refl (times_below_no count n xs high)
  where
    by : (b : Bool) → nat_lt x count ≡ b → times n (below count xs) ≡ 0 → times n (below count (x ∷ xs)) ≡ 0
    by true e rest = let other : same n x ≡ 0 = grind (arith, nat_tests) in rw e (omega (arith, other, rest))
    by false e rest = rw e rest

-- the numbers below the count that were claimed, where each was claimed once
pub once_claimed : (count : ℕ) (claimed : List ℕ) → ((x : ℕ) → x < count → times x claimed ≡ 1) → (n : ℕ) → times n (below count claimed) ≡ once_below n count
once_claimed count claimed each n = by (nat_lt n count) refl
  where
    by : (b : Bool) → nat_lt n count ≡ b → times n (below count claimed) ≡ once_below n count
    by true e = let low : n < count = grind (arith, nat_tests) in times_below_yes count n claimed low ∙ (each n low ∙ rw e refl)
    by false e = let high : count ≤ n = grind (arith, nat_tests) in times_below_no count n claimed high ∙ rw e refl

pub few_below : (count : ℕ) (xs : List ℕ) → length (below count xs) ≤ length xs
few_below count [] = omega arith
few_below count (x ∷ xs) = by (nat_lt x count) refl (few_below count xs)
  where
    by : (b : Bool) → nat_lt x count ≡ b → length (below count xs) ≤ length xs → length (below count (x ∷ xs)) ≤ length (x ∷ xs)
    by true e rest = rw e (omega (arith, rest))
    by false e rest = rw e (omega (arith, rest))
