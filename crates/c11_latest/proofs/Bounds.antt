-- The numbers noted stay below those to come.
use Rattle.std.proofs.Common.{◌<◌, ◌+◌, ℕ, List, [], ◌∷◌, ◌++◌, ap, arith, inl, inr}
use Rattle.c11_latest.specs.declared.latest.Note.{Note}
use Rattle.c11_latest.specs.Notes.{note, IsNoted}
use Rattle.c11_latest.proofs.Places.{old_or_last}

pub below_next : (notes : List Note) (c t n : ℕ) → ((cell thread y : ℕ) → IsNoted notes cell thread y → y < n)
    → (cell thread y : ℕ) → IsNoted (notes ++ note c t n ∷ []) cell thread y → y < n + 1
below_next notes c t n below cell thread y is = elim (old_or_last notes (note c t n) is.0 (note cell thread y) is.1) [
  | inl old ↦ let less = below cell thread y (is.0, old.1) in omega arith
  | inr new ↦ let same = ap (λ (x : Note). x.number) new.1 in omega (arith, same)
]
