-- Counting numbers of a list: how often one stands there, and how many are not below a bound.
use Rattle.std.proofs.Common.{Bool, true, false, ◌≡◌, ℕ, zero, suc, ◌+◌, ◌<◌, ◌≤◌, List, [], ◌∷◌, ◌++◌, length, refl, ap, ◌∙◌, arith, nat_eq, nat_lt, nat_le, if◌then◌else◌, All, slice_index_or}
use Rattle.std.proofs.lemmas.Bool.Decides.{nat_tests}
use Rattle.std.proofs.lemmas.List.Elements.{All-head, All-tail}
use Rattle.c11_claims.specs.Claims.{times, beyond, once_below}

pub times-append : (x : ℕ) (ys zs : List ℕ) → times x (ys ++ zs) ≡ times x ys + times x zs
times-append x [] zs = omega arith
times-append x (y ∷ ys) zs = omega (arith, times-append x ys zs)

pub beyond-append : (count : ℕ) (ys zs : List ℕ) → beyond count (ys ++ zs) ≡ beyond count ys + beyond count zs
beyond-append count [] zs = omega arith
beyond-append count (y ∷ ys) zs = omega (arith, beyond-append count ys zs)

-- one number is at most once beyond
pub beyond_one : (count n : ℕ) → beyond count (n ∷ []) ≤ 1
beyond_one count n = grind (arith, nat_tests)

beyond_no : (count n : ℕ) → n < count → beyond count (n ∷ []) ≡ 0
beyond_no count n below = grind (arith, nat_tests)

beyond_yes : (count n : ℕ) → count ≤ n → beyond count (n ∷ []) ≡ 1
beyond_yes count n above = grind (arith, nat_tests)

-- one more number below
pub once_more : (x n : ℕ) → once_below x n + times x (n ∷ []) ≡ once_below x (n + 1)
once_more x n = grind (arith, nat_tests)

pub once_yes : (x n : ℕ) → x < n → once_below x n ≡ 1
once_yes x n lt = grind (arith, nat_tests)

pub below_of : (x n : ℕ) → 1 ≤ once_below x n → x < n
below_of x n some = grind (arith, nat_tests)

-- f of the k numbers from c on, added up
abbrev pub span : (ℕ → ℕ) → ℕ → ℕ → ℕ
span f c zero = 0
span f c (suc k) = span f c k + f (c + k)

pub span_none : (c k : ℕ) → span (λ x. 0) c k ≡ 0
span_none c zero = refl
span_none c (suc k) = omega (arith, span_none c k)

pub span_add : (f g : ℕ → ℕ) (c k : ℕ) → span (λ x. f x + g x) c k ≡ span f c k + span g c k
span_add f g c zero = refl
span_add f g c (suc k) = omega (arith, span_add f g c k)

pub span_le : (f g : ℕ → ℕ) (c k : ℕ) → ((x : ℕ) → f x ≤ g x) → span f c k ≤ span g c k
span_le f g c zero le = omega arith
span_le f g c (suc k) le = omega (arith, span_le f g c k le, le (c + k))

-- each of the k numbers from c on, all of them below n, counts once
pub span_once : (n c k : ℕ) → c + k ≤ n → span (λ x. once_below x n) c k ≡ k
span_once n c zero le = refl
span_once n c (suc k) le = omega (arith, span_once n c k (omega arith), once_yes (c + k) n (omega arith))

-- 1 from c on and below d
inside : ℕ → ℕ → ℕ → ℕ
inside y c d = if nat_le c y then (if nat_lt y d then 1 else 0) else 0

inside_none : (y c : ℕ) → 0 ≡ inside y c (c + 0)
unfolding inside
inside_none y c = grind (arith, nat_tests)

inside_more : (y c k : ℕ) → inside y c (c + k) + (if nat_eq (c + k) y then 1 else 0) ≡ inside y c (c + suc k)
unfolding inside
inside_more y c k = grind (arith, nat_tests)

inside_le : (y c d : ℕ) → inside y c d ≤ (if nat_le c y then 1 else 0)
unfolding inside
inside_le y c d = grind (arith, nat_tests)

inside_yes : (y n : ℕ) → y < n → inside y 0 (0 + n) ≡ 1
unfolding inside
inside_yes y n lt = grind (arith, nat_tests)

span_one : (y c k : ℕ) → span (λ x. if nat_eq x y then 1 else 0) c k ≡ inside y c (c + k)
span_one y c zero = inside_none y c
span_one y c (suc k) = omega (arith, span_one y c k, inside_more y c k)

span_cons : (y : ℕ) (ys : List ℕ) (c k : ℕ) → span (λ x. times x (y ∷ ys)) c k ≡ inside y c (c + k) + span (λ x. times x ys) c k
span_cons y ys c k = omega (arith, span_add (λ x. if nat_eq x y then 1 else 0) (λ x. times x ys) c k, span_one y c k)

-- how often the k numbers from c on stand in the list, at most as often as numbers not below c
pub span_beyond : (xs : List ℕ) (c k : ℕ) → span (λ x. times x xs) c k ≤ beyond c xs
span_beyond [] c k = omega (arith, span_none c k)
span_beyond (y ∷ ys) c k = omega (arith, span_cons y ys c k, inside_le y c (c + k), span_beyond ys c k)

span_all : (xs : List ℕ) (n : ℕ) → All (λ m. m < n) xs → span (λ x. times x xs) 0 n ≡ length xs
span_all [] n all = span_none 0 n
span_all (y ∷ ys) n all = omega (arith, span_cons y ys 0 n, inside_yes y n (All-head (λ m. m < n) y ys all), span_all ys n (All-tail (λ m. m < n) y ys all))

-- a list has each number at most once, and none that is not below n
abbrev pub OnceBelow : List ℕ → ℕ → Type 0
OnceBelow xs n = (x : ℕ) → times x xs ≤ once_below x n

stands : (xs : List ℕ) (k d : ℕ) → k < length xs → 1 ≤ times (slice_index_or xs k d) xs
stands [] k d lt = absurd (omega arith)
stands (y ∷ ys) zero d lt = grind (arith, nat_tests)
stands (y ∷ ys) (suc k) d lt = omega (arith, stands ys k d (omega arith))

pub once_all : (xs : List ℕ) (n : ℕ) → OnceBelow xs n → All (λ m. m < n) xs
once_all xs n once k d lt = below_of (slice_index_or xs k d) n (omega (arith, once (slice_index_or xs k d), stands xs k d lt))

pub once_few : (xs : List ℕ) (n : ℕ) → OnceBelow xs n → length xs ≤ n
once_few xs n once = omega (arith, span_all xs n (once_all xs n once), span_le (λ x. times x xs) (λ x. once_below x n) 0 n once, span_once n 0 n (omega arith))

-- where a number of the list is not below c, and all are below n, c is below n
pub reaches : (xs : List ℕ) (c n : ℕ) → All (λ m. m < n) xs → 0 < beyond c xs → c < n
reaches [] c n all some = absurd (omega arith)
reaches (y ∷ ys) c n all some = by (nat_le c y) refl (reaches ys c n (All-tail (λ m. m < n) y ys all))
  where
    by : (b : Bool) → nat_le c y ≡ b → (0 < beyond c ys → c < n) → c < n
    by true e rest = let here : y < n = All-head (λ m. m < n) y ys all in grind (arith, nat_tests)
    by false e rest = rest (let left = rw e at some in omega arith)

-- a claim that is below the count, and one that is not
pub still : (count n : ℕ) (xs ys : List ℕ) → ys ≡ xs ++ n ∷ [] → beyond count xs ≡ 0 → n < count → beyond count ys ≡ 0
still count n xs ys e none below = ap (beyond count) e ∙ omega (arith, beyond-append count xs (n ∷ []), beyond_no count n below)

pub over : (count n : ℕ) (xs ys : List ℕ) → ys ≡ xs ++ n ∷ [] → beyond count xs ≡ 0 → count ≤ n → beyond count ys ≡ 1
over count n xs ys e none above = ap (beyond count) e ∙ omega (arith, beyond-append count xs (n ∷ []), beyond_yes count n above)
