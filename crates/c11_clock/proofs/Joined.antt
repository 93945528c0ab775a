-- A join, thread by thread.
use Rattle.std.proofs.Common.{◌≡◌, ℕ, zero, suc, ◌<◌, List, [], ◌∷◌, length, max, slice_index, refl, sym, ◌∙◌, ap, arith}
use Rattle.std.proofs.lemmas.List.{ext_get_or}
use Rattle.c11_clock.specs.Clocks.{joined}

pub joined-each : (xs ys : List ℕ) (thread : ℕ) → slice_index (joined xs ys) thread ≡ max (slice_index xs thread) (slice_index ys thread)
joined-each [] ys thread = omega arith
joined-each (x ∷ xs) [] thread = omega arith
joined-each (x ∷ xs) (y ∷ ys) zero = refl
joined-each (x ∷ xs) (y ∷ ys) (suc thread) = joined-each xs ys thread

pub length-joined : (xs ys : List ℕ) → length ys ≡ length xs → length (joined xs ys) ≡ length xs
length-joined [] ys e = e
length-joined (x ∷ xs) [] e = refl
length-joined (x ∷ xs) (y ∷ ys) e = ap suc (length-joined xs ys (omega arith))

-- what is the larger number of both at each thread is the join
pub is_joined : (xs ys zs : List ℕ) → length ys ≡ length xs → length zs ≡ length xs
    → ((thread : ℕ) → thread < length xs → slice_index zs thread ≡ max (slice_index xs thread) (slice_index ys thread)) → zs ≡ joined xs ys
is_joined xs ys zs e f each = ext_get_or 0 zs (joined xs ys) (f ∙ sym (length-joined xs ys e)) (λ thread lt. each thread (omega (arith, f)) ∙ sym (joined-each xs ys thread))
