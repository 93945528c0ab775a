-- Where a comment ends: at the first `*/`.
use Rattle.std.proofs.Common.{◌≡◌, ◌≤◌, ◌<◌, ℕ, zero, suc, ◌+◌, ◌&&◌, ◌==◌, Bool, true, false, [], ◌∷◌, ◌++◌, length, take, drop, slice_index, Option, Some, None, refl, add-one, sym, ap, subst, ◌∙◌, arith, if◌then◌else◌}
use Rattle.std.proofs.lemmas.Grind.{common_steps}
use Rattle.c11_lexer.specs.Pieces.{Text, NoClose}
use Rattle.c11_lexer.specs.Pieces as s
use Rattle.c11_lexer.specs.Reading.{close, close_at, one_on}

abbrev pub ahead : ℕ → Option ℕ → Option ℕ
ahead n None = None
ahead n (Some k) = Some (n + k)

pub ahead_more : (k : ℕ) (o : Option ℕ) → ahead k (one_on o) ≡ ahead (k + 1) o
ahead_more k None = refl
ahead_more k (Some n) = let e : k + suc n ≡ k + 1 + n = omega arith in ap (λ (x : ℕ). Some x) e

pub ahead_zero : (o : Option ℕ) → ahead 0 o ≡ o
ahead_zero None = refl
ahead_zero (Some n) = let e : 0 + n ≡ n = omega arith in ap (λ (x : ℕ). Some x) e

hit : (z : Text) (k : ℕ) → suc k < length z → slice_index z k ≡ 42 → slice_index z (suc k) ≡ 47 → close (drop k z) ≡ Some 2
unfolding close close_at
hit [] k room e f = absurd (omega arith)
hit (b ∷ []) k room e f = absurd (omega arith)
hit (b ∷ d ∷ z) zero room e f = rw (e, f) refl
hit (b ∷ z) (suc k) room e f = hit z k (omega arith) e f

miss : (z : Text) (k : ℕ) → suc k < length z → (slice_index z k == 42 && slice_index z (suc k) == 47) ≡ false → close (drop k z) ≡ one_on (close (drop (suc k) z))
unfolding close close_at
miss [] k room e = absurd (omega arith)
miss (b ∷ []) k room e = absurd (omega arith)
miss (b ∷ d ∷ z) zero room e = rw e refl
miss (b ∷ z) (suc k) room e = miss z k (omega arith) e

pub close_hit : (z : Text) (k : ℕ) → k + 1 < length z → (slice_index z k == 42 && slice_index z (k + 1) == 47) ≡ true → ahead k (close (drop k z)) ≡ Some (k + 2)
close_hit z k room e = let both = hits (slice_index z k) (slice_index z (k + 1)) e in ap (ahead k) (hit z k (omega arith) both.0 (ap (slice_index z) (sym (add-one k)) ∙ both.1))
  where
    hits : (b d : ℕ) → (b == 42 && d == 47) ≡ true → (b ≡ 42) × (d ≡ 47)
    hits b d e = grind (arith, common_steps)

pub close_miss : (z : Text) (k : ℕ) → k + 1 < length z → (slice_index z k == 42 && slice_index z (k + 1) == 47) ≡ false → ahead k (close (drop k z)) ≡ ahead (k + 1) (close (drop (k + 1) z))
close_miss z k room e = ap (ahead k) (miss z k (omega arith) (subst (λ (n : ℕ). (slice_index z k == 42 && slice_index z n == 47) ≡ false) (add-one k) e)
    ∙ ap (λ (n : ℕ). one_on (close (drop n z))) (sym (add-one k))) ∙ ahead_more k (close (drop (k + 1) z))

pub close_end : (z : Text) (k : ℕ) → length z ≤ k + 1 → close (drop k z) ≡ None
unfolding close close_at
close_end [] zero room = refl
close_end [] (suc k) room = refl
close_end (b ∷ []) zero room = refl
close_end (b ∷ d ∷ z) zero room = absurd (omega arith)
close_end (b ∷ z) (suc k) room = close_end z k (omega arith)

pub choose : {A : Type 0} (P : A → Type 0) (x : Bool) (a b : A) → (x ≡ true → P a) → (x ≡ false → P b) → P (if x then a else b)
choose P true a b yes_ no_ = yes_ refl
choose P false a b yes_ no_ = no_ refl

-- ---- the first `*/`

module _ (b d : ℕ) (t : Text) where
  closed_here : (b == 42 && d == 47) ≡ true → (b ≡ 42) × (d ≡ 47)
  closed_here e = grind (arith, common_steps)

  not_here : (b == 42 && d == 47) ≡ false → b ≡ 42 → d ≡ 47 → ⊥
  not_here e f g = grind (arith, common_steps)

-- What a text closes after n bytes is: the bytes before the last `/` hold no `*/`, and the last two are `*/`.
pub record Closes (t : Text) (n : ℕ) : Type 0 where
  pub within : n ≤ length t
  pub body : Text
  pub is : take n t ≡ body ++ 42 ∷ 47 ∷ []
  pub free : NoClose (body ++ 42 ∷ [])
  pub first : (k : ℕ) → k ≤ length t → NoClose (take k t) → k < n

pub data Closing (t : Text) : Option ℕ → Type 0 where
  never : NoClose t → Closing t None
  at : {n : ℕ} → Closes t n → Closing t (Some n)

first_here : (t : Text) (k : ℕ) → NoClose (take k (42 ∷ 47 ∷ t)) → k < 2
first_here t zero free = omega arith
first_here t (suc zero) free = omega arith
first_here t (suc (suc k)) (s.NoClose.more f free) = absurd (f refl refl)

here : (b d : ℕ) (t : Text) → 42 ≡ b → 47 ≡ d → Closes (b ∷ d ∷ t) 2
here b d t e f = subst (λ (x : ℕ). Closes (x ∷ d ∷ t) 2) e (subst (λ (y : ℕ). Closes (42 ∷ y ∷ t) 2) f
    (record { within = omega arith; body = []; is = refl; free = s.NoClose.one; first = λ k room free. first_here t k free }))

free_more : (b x : ℕ) (xs body : Text) → NoClose (body ++ 42 ∷ []) → x ∷ xs ≡ body ++ 42 ∷ 47 ∷ [] → (b ≡ 42 → x ≡ 47 → ⊥) → NoClose (b ∷ body ++ 42 ∷ [])
free_more b x xs [] free is apart = s.NoClose.more (λ e f. absurd (omega (arith, f))) s.NoClose.one
free_more b x xs (y ∷ ys) free is apart = let same : x ≡ y = cc in s.NoClose.more (λ e f. apart e (same ∙ f)) free

first_later : (b d : ℕ) (t : Text) (n : ℕ) → ((k : ℕ) → k ≤ length (d ∷ t) → NoClose (take k (d ∷ t)) → k < n) → (k : ℕ) → k ≤ suc (length (d ∷ t)) → NoClose (take k (b ∷ d ∷ t)) → k < suc n
first_later b d t n first zero room free = omega arith
first_later b d t n first (suc zero) room free = let some = first 0 (omega arith) s.NoClose.none in omega arith
first_later b d t n first (suc (suc k)) room (s.NoClose.more f free) = let less = first (suc k) (omega arith) free in omega arith

body_later : (b d : ℕ) (t body : Text) (n : ℕ) → take n (d ∷ t) ≡ body ++ 42 ∷ 47 ∷ [] → 0 < n → NoClose (body ++ 42 ∷ []) → (b ≡ 42 → d ≡ 47 → ⊥) → NoClose (b ∷ body ++ 42 ∷ [])
body_later b d t body zero is some free apart = absurd (omega arith)
body_later b d t body (suc n) is some free apart = free_more b d (take n t) body free is apart

later : (b d : ℕ) (t : Text) → (b ≡ 42 → d ≡ 47 → ⊥) → (o : Option ℕ) → Closing (d ∷ t) o → Closing (b ∷ d ∷ t) (one_on o)
later b d t apart None (never free) = never (s.NoClose.more apart free)
later b d t apart (Some n) (at h) = at (record {
  within = let w = h.within in omega arith;
  body = b ∷ h.body;
  is = ap (λ (x : Text). b ∷ x) h.is;
  free = body_later b d t h.body n h.is (h.first 0 (omega arith) s.NoClose.none) h.free apart;
  first = first_later b d t n h.first;
})

closing_at : (b : ℕ) (t : Text) → Closing (b ∷ t) (close_at b t)
unfolding close_at
closing_at b [] = never s.NoClose.one
closing_at b (d ∷ t) = let tail = closing_at d t in choose (Closing (b ∷ d ∷ t)) (b == 42 && d == 47) (Some 2) (one_on (close_at d t))
    (λ e. let both = closed_here b d t e in at (here b d t (sym both.0) (sym both.1))) (λ e. later b d t (not_here b d t e) (close_at d t) tail)

pub closing : (t : Text) → Closing t (close t)
unfolding close
closing [] = never s.NoClose.none
closing (b ∷ t) = closing_at b t

-- the front without its last byte
pub record Cut (t body : Text) (k : ℕ) : Type 0 where
  pub before : ℕ
  pub is : k ≡ suc before
  pub front_is : take before t ≡ body ++ 42 ∷ []

pub cut : (body t : Text) (k : ℕ) → k ≤ length t → take k t ≡ body ++ 42 ∷ 47 ∷ [] → Cut t body k
cut [] t zero room e = cc
cut [] [] (suc k) room e = cc
cut [] (x ∷ t) (suc zero) room e = cc
cut [] (x ∷ []) (suc (suc k)) room e = cc
cut [] (x ∷ y ∷ t) (suc (suc zero)) room e = record { before = 1; is = refl; front_is = let same : x ≡ 42 = cc in ap (λ (z : ℕ). z ∷ []) same }
cut [] (x ∷ y ∷ []) (suc (suc (suc k))) room e = absurd (omega arith)
cut [] (x ∷ y ∷ z ∷ t) (suc (suc (suc k))) room e = cc
cut (w ∷ body) t zero room e = cc
cut (w ∷ body) [] (suc k) room e = cc
cut (w ∷ body) (x ∷ t) (suc k) room e = let tail : take k t ≡ body ++ 42 ∷ 47 ∷ [] = cc in let h = cut body t k (omega arith) tail in
    record { before = suc h.before; is = ap suc h.is; front_is = let same : x ≡ w = cc in ap (λ (z : ℕ). z ∷ take h.before t) same ∙ ap (λ (v : Text). w ∷ v) h.front_is }

pub not_closed : (body : Text) → NoClose (body ++ 42 ∷ 47 ∷ []) → ⊥
not_closed [] (s.NoClose.more f free) = f refl refl
not_closed (b ∷ []) (s.NoClose.more f free) = not_closed [] free
not_closed (b ∷ d ∷ body) (s.NoClose.more f free) = not_closed (d ∷ body) free
