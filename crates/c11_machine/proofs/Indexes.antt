-- Indexes inside and outside of their array.
use Rattle.std.proofs.Common.{◌≡◌, ℕ, ◌+◌, Bool, true, false, ap, refl, arith}
use Rattle.std.specs.Prelude.{ℤ, pos, negsuc, if◌then◌else◌}
use Rattle.std.specs.Int.Signed.{le_z, lt_z}
use Rattle.std.proofs.lemmas.Bool.Decides.{nat_tests}
use lib.IntN.{nat_abs}
use Rattle.c11_events.specs.declared.op.StopKind.TheVariants.{Bounds}
use Rattle.c11_meaning.specs.Outcome.{State, Gives, stop}
use Rattle.c11_meaning.specs.Objects.{element}

pub inside : (line base size : ℕ) (z : ℤ) (st : State) → le_z (pos 0) z ≡ true → lt_z z (pos size) ≡ true → element line base size z st ≡ Gives (base + nat_abs z) st
unfolding element
inside line base size (pos n) st low high = ap (λ (b : Bool). if b then Gives (base + n) st else stop line Bounds st) high
inside line base size (negsuc n) st low high = absurd (cc low)

pub too_high : (line base size : ℕ) (z : ℤ) (st : State) → lt_z z (pos size) ≡ false → element line base size z st ≡ stop line Bounds st
unfolding element
too_high line base size (pos n) st high = ap (λ (b : Bool). if b then Gives (base + n) st else stop line Bounds st) high
too_high line base size (negsuc n) st high = refl

pub too_low : (line base size : ℕ) (z : ℤ) (st : State) → le_z (pos 0) z ≡ false → element line base size z st ≡ stop line Bounds st
unfolding element
too_low line base size (pos n) st low = absurd (grind (arith, nat_tests, low))
too_low line base size (negsuc n) st low = refl
