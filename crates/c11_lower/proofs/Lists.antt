-- Lists along which a loop goes.
use Rattle.std.proofs.Common.{◌≡◌, ℕ, zero, suc, ◌+◌, ◌<◌, List, [], ◌∷◌, drop, length, get_or, sym, ap, ◌∙◌, arith, add-one}

at_suc : {A : Type 0} (xs : List A) (i : ℕ) (x : A) → i < length xs → x ≡ get_or xs i x → drop i xs ≡ x ∷ drop (suc i) xs
at_suc [] i x less is = absurd (omega (arith, less))
at_suc (y ∷ xs) zero x less is = ap (λ z. z ∷ xs) (sym is)
at_suc (y ∷ xs) (suc i) x less is = at_suc xs i x (omega (arith, less)) is

-- what is left begins with the next
pub first_of : {A : Type 0} (xs : List A) (i : ℕ) (x : A) → i < length xs → x ≡ get_or xs i x → drop i xs ≡ x ∷ drop (i + 1) xs
first_of xs i x less is = at_suc xs i x less is ∙ ap (λ (n : ℕ). x ∷ drop n xs) (sym (add-one i))
