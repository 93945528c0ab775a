-- Numbers of single types.
use Rattle.std.proofs.Common.{◌≡◌, ◌-◌, ◌^◌, ◌%◌, ◌≤◌, Fits, w32, refl, ap, sym, ◌∙◌, subst, arith}
use Rattle.std.specs.Prelude.{ℤ, pos, negsuc, ◌-ℤ◌, unsigned_abs}
use lib.Dec.{T}
use lib.Signed.{non_neg}
use lib.IntN.{nat_abs}
use Rattle.std.proofs.lemmas.Int.{ints, int_rem_euclid_is}
use Rattle.std.specs.Int.{int_rem_euclid}
use Rattle.c11_num.specs.Ranges.{TypedNumber, IsInRange}
use Rattle.c11_num.specs.Wrapping.{wrapped}
use Rattle.c11_num.specs.declared.value.CType.{CType}
use Rattle.c11_num.specs.declared.value.CType.TheVariants.{Int, Unsigned, Long, ULong}

held : (ctype : CType) (v : TypedNumber) (n : ℤ) → v ≡ wrapped ctype n → IsInRange v.ctype v.number → IsInRange ctype v.number
unfolding wrapped
held ctype v n e h = subst (λ (t : CType). IsInRange t v.number) (ap (λ (x : TypedNumber). x.ctype) e) h

pub int_held : (v : TypedNumber) (n : ℤ) → v ≡ wrapped Int n → IsInRange v.ctype v.number → IsInRange Int v.number
int_held v n e h = held Int v n e h

pub unsigned_held : (v : TypedNumber) (n : ℤ) → v ≡ wrapped Unsigned n → IsInRange v.ctype v.number → IsInRange Unsigned v.number
unsigned_held v n e h = held Unsigned v n e h

pub long_held : (v : TypedNumber) (n : ℤ) → v ≡ wrapped Long n → IsInRange v.ctype v.number → IsInRange Long v.number
long_held v n e h = held Long v n e h

pub ulong_held : (v : TypedNumber) → v.ctype ≡ ULong → IsInRange v.ctype v.number → IsInRange ULong v.number
ulong_held v e h = subst (λ (t : CType). IsInRange t v.number) e h

pub unsigned_fits : (z : ℤ) → IsInRange Unsigned z → T (non_neg z) × Fits w32 (nat_abs z)
unsigned_fits (pos a) h = (tt, omega (arith, ints, h.1))
unsigned_fits (negsuc a) h = absurd (omega (arith, ints, h.0))

pub flip_ulong : (z : ℤ) → IsInRange ULong z → wrapped ULong (pos (2 ^ 64 - 1) -ℤ z) ≡ wrapped ULong (negsuc 0 -ℤ z)
unfolding wrapped
flip_ulong (pos a) h =
    let small : a ≤ 2 ^ 64 - 1 = omega (arith, ints, h.1) in
    let one : int_rem_euclid (pos (2 ^ 64 - 1) -ℤ pos a) (pos (2 ^ 64)) ≡ pos ((2 ^ 64 - 1 - a) % 2 ^ 64) =
    int_rem_euclid_is (pos (2 ^ 64 - 1) -ℤ pos a) (pos (2 ^ 64)) (2 ^ 64) 0 (2 ^ 64 - 1 - a) (omega arith) refl (omega (arith, ints)) in
    let other : int_rem_euclid (negsuc 0 -ℤ pos a) (pos (2 ^ 64)) ≡ pos ((2 ^ 64 - 1 - a) % 2 ^ 64) =
    int_rem_euclid_is (negsuc 0 -ℤ pos a) (pos (2 ^ 64)) (2 ^ 64) 1 (2 ^ 64 - 1 - a) (omega arith) refl (omega (arith, ints)) in
    ap (λ (r : ℤ). record { ctype = ULong; number = pos (unsigned_abs r) }) (one ∙ sym other)
flip_ulong (negsuc a) h = absurd (omega (arith, ints, h.0))
