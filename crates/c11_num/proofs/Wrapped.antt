-- A number that the type holds is the value that it is brought to.
use Rattle.std.proofs.Common.{◌≡◌, ℤ, pos, negsuc, FitsSigned, w32, w64, ap, arith}
use Rattle.std.proofs.lemmas.Int.{ints, int_wrap_fits}
use Rattle.std.specs.Int.{int_wrap}
use Rattle.c11_num.specs.declared.value.CType.{CType}
use Rattle.c11_num.specs.declared.value.CType.TheVariants.{Int, Unsigned, Long, ULong}
use Rattle.c11_num.specs.Ranges.{IsInRange}
use Rattle.c11_num.specs.Wrapping.{wrapped}

fits_int : (z : ℤ) → IsInRange Int z → FitsSigned w32 z
fits_int (pos n) h = record { sfits = omega (arith, ints, h.1) }
fits_int (negsuc n) h = record { sfits = omega (arith, ints, h.0) }

fits_long : (z : ℤ) → IsInRange Long z → FitsSigned w64 z
fits_long (pos n) h = record { sfits = omega (arith, ints, h.1) }
fits_long (negsuc n) h = record { sfits = omega (arith, ints, h.0) }

pub wrapped_number : (ctype : CType) (z : ℤ) → IsInRange ctype z → (wrapped ctype z).number ≡ z
unfolding wrapped int_wrap
wrapped_number Int z h = int_wrap_fits w32 z (fits_int z h)
wrapped_number Long z h = int_wrap_fits w64 z (fits_long z h)
wrapped_number Unsigned (pos n) h = ap pos (omega (arith, ints, h.1))
wrapped_number Unsigned (negsuc n) h = absurd (omega (arith, ints, h.0))
wrapped_number ULong (pos n) h = ap pos (omega (arith, ints, h.1))
wrapped_number ULong (negsuc n) h = absurd (omega (arith, ints, h.0))
