-- The longest mark at the front.
use Rattle.std.proofs.Common.{◌≡◌, ◌≤◌, ◌<◌, ℕ, zero, suc, ◌==◌, ◌&&◌, ◌||◌, Bool, true, false, [], ◌∷◌, length, take, refl, sym, subst, arith, ◌⊎◌, inl, inr, ⊎_elim, codes}
use Rattle.std.proofs.lemmas.Grind.{common_steps}
use Rattle.std.proofs.lemmas.List.{length-take-le}
use Rattle.std.specs.List.{list_any, list_all}
use Rattle.c11_lexer.specs.declared.piece.Class.{Class}
use Rattle.c11_lexer.specs.declared.piece.Class.TheVariants as c
use Rattle.c11_lexer.specs.Pieces.{Text, IsMark, is_mark, is_doubled, takes_equals, is_shift, class, is_blank, is_word}
use Rattle.c11_lexer.specs.Pieces as s
use Rattle.c11_lexer.proofs.CommentEnds.{choose}
use Rattle.c11_lexer.specs.Reading.{mark_len, is_pair, is_triple}

both_true : (x y : Bool) → (x && y) ≡ true → (x ≡ true) × (y ≡ true)
both_true true true e = (refl, refl)
both_true true false e = cc
both_true false y e = cc

either_true : (x y : Bool) → (x || y) ≡ true → (x ≡ true) ⊎ (y ≡ true)
either_true true y e = inl refl
either_true false y e = inr e

test_is : (d n : ℕ) → (d == n) ≡ true → d ≡ n
test_is d n e = grind (arith, common_steps)

-- what each byte of a list passes, each byte that is one of them passes
one_of : (test : ℕ → Bool) (xs : Text) (b : ℕ) → list_all test xs ≡ true → list_any (λ x. x == b) xs ≡ true → test b ≡ true
one_of test [] b all any = cc
one_of test (x ∷ xs) b all any =
    ⊎_elim (λ (e : (x == b) ≡ true). subst (λ (y : ℕ). test y ≡ true) (test_is x b e) (both_true (test x) (list_all test xs) all).0)
    (λ (e : list_any (λ x. x == b) xs ≡ true). one_of test xs b (both_true (test x) (list_all test xs) all).1 e) (either_true (x == b) (list_any (λ x. x == b) xs) any)

abbrev pub is_marking : Class → Bool
is_marking c.Blank = false
is_marking c.Run = false
is_marking c.Quote = false
is_marking c.Slash = true
is_marking c.Mark = true
is_marking c.Other = false

pub mark_class : (b : ℕ) → is_mark b ≡ true → is_marking (class b) ≡ true
unfolding is_mark class is_blank is_word
mark_class b e = one_of (λ x. is_marking (class x)) (codes "+-*/%&|^~!<>=?:;,()[]{}") b refl e

doubled_is : (b : ℕ) → is_doubled b ≡ true → is_mark b ≡ true
unfolding is_mark is_doubled
doubled_is b e = one_of (λ x. is_mark x) (codes "<>&|+-=") b refl e

equals_is : (b : ℕ) → takes_equals b ≡ true → is_mark b ≡ true
unfolding is_mark takes_equals
equals_is b e = one_of (λ x. is_mark x) (codes "<>=!+-*/%&|^") b refl e

shift_is : (b : ℕ) → is_shift b ≡ true → is_mark b ≡ true
unfolding is_mark is_shift
shift_is b e = one_of (λ x. is_mark x) (codes "<>") b refl e

pub first_is : (b : ℕ) (u : Text) → IsMark (b ∷ u) → is_mark b ≡ true
first_is b u (s.IsMark.single e) = e
first_is b u (s.IsMark.doubled e) = doubled_is b e
first_is b u (s.IsMark.with_equals e) = equals_is b e
first_is b u (s.IsMark.shift_equals e) = shift_is b e

-- ---- how long a mark is

pub mark_short : (b : ℕ) (u : Text) → IsMark (b ∷ u) → length u ≤ 2
mark_short b u (s.IsMark.single e) = omega arith
mark_short b u (s.IsMark.doubled e) = omega arith
mark_short b u (s.IsMark.with_equals e) = omega arith
mark_short b u (s.IsMark.shift_equals e) = omega arith

same_pair : (b : ℕ) → is_doubled b ≡ true → is_pair b b ≡ true
same_pair b e = grind (arith, common_steps)

equals_pair : (b : ℕ) → takes_equals b ≡ true → is_pair b 61 ≡ true
equals_pair b e = grind (arith, common_steps)

shift_triple : (b : ℕ) → is_shift b ≡ true → is_triple b b 61 ≡ true
shift_triple b e = grind (arith, common_steps)

pair_of : (b d : ℕ) → IsMark (b ∷ d ∷ []) → is_pair b d ≡ true
pair_of b d (s.IsMark.doubled e) = same_pair b e
pair_of b d (s.IsMark.with_equals e) = equals_pair b e

triple_of : (b d e : ℕ) → IsMark (b ∷ d ∷ e ∷ []) → is_triple b d e ≡ true
triple_of b d e (s.IsMark.shift_equals f) = shift_triple b f

pair_is : (b d : ℕ) → is_pair b d ≡ true → IsMark (b ∷ d ∷ [])
pair_is b d e =
    ⊎_elim (λ (f : (d == b && is_doubled b) ≡ true). let parts = both_true (d == b) (is_doubled b) f in subst (λ (x : ℕ). IsMark (b ∷ x ∷ [])) (sym (test_is d b parts.0)) (s.IsMark.doubled parts.1))
    (λ (f : (d == 61 && takes_equals b) ≡ true). let parts = both_true (d == 61) (takes_equals b) f in subst (λ (x : ℕ). IsMark (b ∷ x ∷ [])) (sym (test_is d 61 parts.0)) (s.IsMark.with_equals parts.1))
    (either_true (d == b && is_doubled b) (d == 61 && takes_equals b) e)

triple_is : (b d e : ℕ) → is_triple b d e ≡ true → IsMark (b ∷ d ∷ e ∷ [])
triple_is b d e f =
    let parts = both_true (d == b && e == 61) (is_shift b) f in
    let bytes = both_true (d == b) (e == 61) parts.0 in
    subst (λ (x : ℕ). IsMark (b ∷ x ∷ e ∷ [])) (sym (test_is d b bytes.0)) (subst (λ (x : ℕ). IsMark (b ∷ b ∷ x ∷ [])) (sym (test_is e 61 bytes.1)) (s.IsMark.shift_equals parts.1))

pub record LongestMark (b : ℕ) (t : Text) (n : ℕ) : Type 0 where
  pub within : n ≤ suc (length t)
  pub some : 0 < n
  pub is : IsMark (take n (b ∷ t))
  pub most : (k : ℕ) → k ≤ length t → IsMark (b ∷ take k t) → suc k ≤ n

false_true : (x : Bool) → x ≡ false → x ≡ true → ⊥
false_true x e f = cc

no_pair : (b d : ℕ) (k : ℕ) → k ≤ 1 → is_pair b d ≡ false → IsMark (b ∷ take k (d ∷ [])) → suc k ≤ 1
no_pair b d zero room e mark = omega arith
no_pair b d (suc zero) room e mark = absurd (false_true (is_pair b d) e (pair_of b d mark))
no_pair b d (suc (suc k)) room e mark = absurd (omega arith)

too_long : (b : ℕ) (t : Text) (k : ℕ) → k ≤ length t → IsMark (b ∷ take k t) → k ≤ 2
too_long b t k room mark = let short = mark_short b (take k t) mark in let long = length-take-le k t room in omega (arith, long)

no_triple : (b d e : ℕ) (t : Text) (k : ℕ) → k ≤ suc (suc (length t)) → is_triple b d e ≡ false → IsMark (b ∷ take k (d ∷ e ∷ t)) → suc k ≤ 2
no_triple b d e t zero room f mark = omega arith
no_triple b d e t (suc zero) room f mark = omega arith
no_triple b d e t (suc (suc zero)) room f mark = absurd (false_true (is_triple b d e) f (triple_of b d e mark))
no_triple b d e t (suc (suc (suc k))) room f mark = absurd (let short = too_long b (d ∷ e ∷ t) (suc (suc (suc k))) room mark in omega arith)

neither : (b d e : ℕ) (t : Text) (k : ℕ) → k ≤ suc (suc (length t)) → is_triple b d e ≡ false → is_pair b d ≡ false → IsMark (b ∷ take k (d ∷ e ∷ t)) → suc k ≤ 1
neither b d e t zero room f g mark = omega arith
neither b d e t (suc zero) room f g mark = absurd (false_true (is_pair b d) g (pair_of b d mark))
neither b d e t (suc (suc k)) room f g mark = absurd (let short = no_triple b d e t (suc (suc k)) room f mark in omega arith)

pub longest_mark : (b : ℕ) (t : Text) → is_mark b ≡ true → LongestMark b t (mark_len b t)
unfolding mark_len
longest_mark b [] e = record { within = omega arith; some = omega arith; is = s.IsMark.single e; most = λ k room mark. omega arith }
longest_mark b (d ∷ []) e = choose (LongestMark b (d ∷ [])) (is_pair b d) 2 1
    (λ f. record { within = omega arith; some = omega arith; is = pair_is b d f; most = λ k room mark. omega arith })
    (λ f. record { within = omega arith; some = omega arith; is = s.IsMark.single e; most = λ k room mark. no_pair b d k room f mark })
longest_mark b (d ∷ e ∷ t) first = choose (LongestMark b (d ∷ e ∷ t)) (is_triple b d e) 3 _
    (λ f. record { within = omega arith; some = omega arith; is = triple_is b d e f; most = λ k room mark. let short = too_long b (d ∷ e ∷ t) k room mark in omega arith })
    (λ f. choose (LongestMark b (d ∷ e ∷ t)) (is_pair b d) 2 1
    (λ g. record { within = omega arith; some = omega arith; is = pair_is b d g; most = λ k room mark. no_triple b d e t k room f mark })
    (λ g. record { within = omega arith; some = omega arith; is = s.IsMark.single first; most = λ k room mark. neither b d e t k room f g mark }))
