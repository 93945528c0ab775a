-- What `i128` computes of the numbers of values is exact, since each is below 2 ^ 64 in absolute value.
use Rattle.std.proofs.Common.{Bool, tests, true, false, subst, ◌≡◌, ℕ, zero, suc, ◌^◌, ◌-◌, ◌*◌, ◌%◌, ◌<◌, ◌≤◌, ℤ, pos, negsuc, ◌+ℤ◌, ◌-ℤ◌, ◌*ℤ◌, int_div, int_rem, to_z, of_z, FitsSigned, unsigned_abs, ap, ◌∙◌, sym, refl, arith, rules}
use Rattle.std.specs.Int.{w128}
use Rattle.std.specs.Prelude.{Result, Ok}
use Rattle.std.proofs.Math.Nat.{div-le_self}
use Rattle.std.proofs.Math.Pow.{pow_mono}
use Rattle.std.proofs.lemmas.Nat.{mul-mod}
use Rattle.std.proofs.lemmas.Int.{ints, to_z-of_z, fits_signed_from_abs, fits_signed_mul, quot_is, rem_is}
use Rattle.c11_num.specs.declared.value.CType.{CType}
use Rattle.c11_num.specs.declared.value.CType.TheVariants.{Int, Unsigned, Long, ULong}
use Rattle.c11_num.specs.declared.fault.NumFault.{NumFault}
use Rattle.c11_num.specs.Ranges.{TypedNumber, IsInRange}
use Rattle.c11_num.specs.Wrapping.{width_of, bits_of, of_bits, wrapped}
use Rattle.c11_num.specs.Arithmetic.{is_signed, Overflows}
use Rattle.c11_num.specs.Operators as spec
use Rattle.c11_num.proofs.Wrapped.{wrapped_number}

-- the absolute value of a number of any type, and of a signed one
pub small : (ctype : CType) (z : ℤ) → IsInRange ctype z → unsigned_abs z ≤ 2 ^ 64 - 1
small Int (pos n) h = omega (arith, ints, h.1)
small Int (negsuc n) h = omega (arith, ints, h.0)
small Unsigned (pos n) h = omega (arith, ints, h.1)
small Unsigned (negsuc n) h = omega (arith, ints, h.0)
small Long (pos n) h = omega (arith, ints, h.1)
small Long (negsuc n) h = omega (arith, ints, h.0)
small ULong (pos n) h = omega (arith, ints, h.1)
small ULong (negsuc n) h = omega (arith, ints, h.0)

small_signed : (ctype : CType) (z : ℤ) → is_signed ctype ≡ true → IsInRange ctype z → unsigned_abs z ≤ 2 ^ 63
small_signed Int (pos n) s h = omega (arith, ints, h.1)
small_signed Int (negsuc n) s h = omega (arith, ints, h.0)
small_signed Unsigned z s h = cc
small_signed Long (pos n) s h = omega (arith, ints, h.1)
small_signed Long (negsuc n) s h = omega (arith, ints, h.0)
small_signed ULong z s h = cc

fits : (ctype : CType) (z : ℤ) → IsInRange ctype z → FitsSigned w128 z
fits ctype z h = fits_signed_from_abs w128 z (omega (arith, small ctype z h))

pub same_exact : (c s : CType) (y z : ℤ) → c ≡ s → y ≡ z → spec.exact c y ≡ spec.exact s z
same_exact c s y z e f = cc

pub sum_exact : (s t : CType) (a b x y : ℤ) → IsInRange s a → IsInRange t b → x ≡ a → y ≡ b
    → to_z w128 (of_z w128 (to_z w128 (of_z w128 x) +ℤ to_z w128 (of_z w128 y))) ≡ a +ℤ b
sum_exact s t a b x y p q e f = omega (arith, ints, small s a p, small t b q, e, f)

pub difference_exact : (s t : CType) (a b x y : ℤ) → IsInRange s a → IsInRange t b → x ≡ a → y ≡ b
    → to_z w128 (of_z w128 (to_z w128 (of_z w128 x) -ℤ to_z w128 (of_z w128 y))) ≡ a -ℤ b
difference_exact s t a b x y p q e f = omega (arith, ints, small s a p, small t b q, e, f)

pub product_exact : (s t : CType) (a b x y : ℤ) → s ≡ t → is_signed s ≡ true → IsInRange s a → IsInRange t b → x ≡ a → y ≡ b
    → to_z w128 (of_z w128 (to_z w128 (of_z w128 x) *ℤ to_z w128 (of_z w128 y))) ≡ a *ℤ b
product_exact s t a b x y same signed p q e f =
    let left : to_z w128 (of_z w128 x) ≡ a = omega (arith, ints, small s a p, e) in
    let right : to_z w128 (of_z w128 y) ≡ b = omega (arith, ints, small t b q, f) in
    let fits = fits_signed_mul w128 a b (2 ^ 63) (2 ^ 63) (small_signed s a signed p) (small_signed t b (rw (← same) signed) q) (omega arith) in
    rw (left, right) (to_z-of_z w128 (a *ℤ b) fits)

-- an unsigned product by the bits
bits_of_product : (s : CType) (a b : ℤ) → is_signed s ≡ false → IsInRange s a → IsInRange s b
    → bits_of s (a *ℤ b) ≡ (bits_of s a * bits_of s b) % 2 ^ width_of s
bits_of_product Int a b e p q = cc
bits_of_product Unsigned (pos m) (pos n) e p q = mul-mod m n (2 ^ 32)
bits_of_product Unsigned (pos m) (negsuc n) e p q = absurd (omega (arith, ints, q.0))
bits_of_product Unsigned (negsuc m) b e p q = absurd (omega (arith, ints, p.0))
bits_of_product Long a b e p q = cc
bits_of_product ULong (pos m) (pos n) e p q = mul-mod m n (2 ^ 64)
bits_of_product ULong (pos m) (negsuc n) e p q = absurd (omega (arith, ints, q.0))
bits_of_product ULong (negsuc m) b e p q = absurd (omega (arith, ints, p.0))

in_range : (s : CType) (z : ℤ) → spec.holds s z ≡ true → IsInRange s z
in_range s z h = search (rules, tests)

typed : (r : TypedNumber) (s : CType) (z : ℤ) → r.ctype ≡ s → r.number ≡ z → r ≡ record { ctype = s; number = z }
typed r s z e f = rw (← e, ← f) refl

held : (s : CType) (z : ℤ) → IsInRange s z → spec.holds s z ≡ true
held s z h = search (rules, tests)

exact_wrapped : (s : CType) (z : ℤ) (in_type signed : Bool) → spec.holds s z ≡ in_type → is_signed s ≡ signed → (Overflows s z → ⊥) → spec.exact s z ≡ Ok (wrapped s z)
unfolding spec.exact wrapped
exact_wrapped s z true signed h e within = rw h (ap Ok (sym (typed (wrapped s z) s z refl (wrapped_number s z (in_range s z h)))))
exact_wrapped s z false true h e within = absurd (within (e, λ r. let t = held s z r in cc))
exact_wrapped s z false false h e within = rw (h, e) refl

-- a result that does not overflow is the exact one modulo two to the width
pub exact_unless_overflow : (s : CType) (z : ℤ) → (Overflows s z → ⊥) → spec.exact s z ≡ Ok (wrapped s z)
exact_unless_overflow s z within = exact_wrapped s z (spec.holds s z) (is_signed s) refl refl within

exact_unsigned : (s : CType) (z : ℤ) → is_signed s ≡ false → spec.exact s z ≡ Ok (wrapped s z)
exact_unsigned s z e = exact_unless_overflow s z (λ o. let t = o.0 in cc)

product_by_bits : (s : CType) (a b : ℤ) → is_signed s ≡ false → IsInRange s a → IsInRange s b
    → spec.exact s (a *ℤ b) ≡ Ok (record { ctype = s; number = of_bits s ((bits_of s a * bits_of s b) % 2 ^ width_of s) })
unfolding wrapped
product_by_bits s a b e p q = exact_unsigned s (a *ℤ b) e ∙ rw (bits_of_product s a b e p q) refl

same_bits : (c s : CType) (a x : ℤ) → IsInRange s a → c ≡ s → x ≡ a → bits_of c (to_z w128 (of_z w128 x)) ≡ bits_of s a
same_bits c s a x p e f = let read : to_z w128 (of_z w128 x) ≡ a = omega (arith, ints, small s a p, f) in rw (e, read) refl

same_number : (z : ℤ) (c s : CType) (m n m' n' k k' : ℕ) → z ≡ of_bits c ((m * n) % k) → c ≡ s → m ≡ m' → n ≡ n' → k ≡ k' → z ≡ of_bits s ((m' * n') % k')
same_number z c s m n m' n' k k' f g h i j = cc

pub unsigned_product : (s t c : CType) (a b x y : ℤ) (m n k : ℕ) (r : TypedNumber) → s ≡ t → is_signed s ≡ false → IsInRange s a → IsInRange t b → c ≡ s → x ≡ a → y ≡ b
    → m ≡ bits_of c (to_z w128 (of_z w128 x)) → n ≡ bits_of c (to_z w128 (of_z w128 y)) → k ≡ 2 ^ width_of c
    → r.ctype ≡ c → r.number ≡ of_bits c ((m * n) % k) → spec.exact s (a *ℤ b) ≡ Ok r
unsigned_product s t c a b x y m n k r same unsigned p q e f g bits_m bits_n modulus ctype number =
    let q' = subst (λ (u : CType). IsInRange u b) (sym same) q in
    let result = same_number r.number c s m n (bits_of s a) (bits_of s b) k (2 ^ width_of s) number e (bits_m ∙ same_bits c s a x p e f) (bits_n ∙ same_bits c s b y q' e g)
    (modulus ∙ ap (λ (u : CType). 2 ^ width_of u) e) in
    product_by_bits s a b unsigned p q' ∙ ap Ok (sym (typed r s (of_bits s ((bits_of s a * bits_of s b) % 2 ^ width_of s)) (ctype ∙ e) result))

abs_quot : (a d : ℤ) → unsigned_abs (int_div a d) ≤ unsigned_abs a
abs_quot (pos a) (pos b) = div-le_self a b
abs_quot (pos a) (negsuc b) = omega (arith, ints, div-le_self a (suc b))
abs_quot (negsuc a) (pos b) = omega (arith, ints, div-le_self (suc a) b)
abs_quot (negsuc a) (negsuc b) = div-le_self (suc a) (suc b)

pub quotient_exact : (s t : CType) (a b x y : ℤ) → IsInRange s a → IsInRange t b → x ≡ a → y ≡ b
    → to_z w128 (of_z w128 (int_div (to_z w128 (of_z w128 x)) (to_z w128 (of_z w128 y)))) ≡ int_div a b
quotient_exact s t a b x y p q e f =
    let whole = fits_signed_from_abs w128 (int_div a b) (omega (arith, small s a p, abs_quot a b)) in
    rw (e, f) (quot_is w128 a b (fits s a p) (fits t b q) whole)

pub remainder_exact : (s t : CType) (a b x y : ℤ) → IsInRange s a → IsInRange t b → x ≡ a → y ≡ b
    → to_z w128 (of_z w128 (int_rem (to_z w128 (of_z w128 x)) (to_z w128 (of_z w128 y)))) ≡ int_rem a b
remainder_exact s t a b x y p q e f = rw (e, f) (rem_is w128 a b (fits s a p) (fits t b q))

-- a test that x is not 0 is one of b
pub past_zero : (b x : ℤ) (value : Result TypedNumber NumFault) → x ≡ b → (of_z w128 x ≡ 0 → ⊥) → spec.unless_zero b value ≡ value
unfolding spec.unless_zero
past_zero (pos zero) x value e some = absurd (some (ap (of_z w128) e))
past_zero (pos (suc n)) x value e some = grind arith
past_zero (negsuc n) x value e some = refl

-- a value times two to a count
count_small : (ctype : CType) (count : ℕ) → count < width_of ctype → 2 ^ count ≤ 2 ^ 63
count_small Int count h = pow_mono {i = count} {j = 63} (omega (arith, h))
count_small Unsigned count h = pow_mono {i = count} {j = 63} (omega (arith, h))
count_small Long count h = pow_mono {i = count} {j = 63} (omega (arith, h))
count_small ULong count h = pow_mono {i = count} {j = 63} (omega (arith, h))

power_is : (ctype : CType) (count : ℕ) → count < width_of ctype → to_z w128 (1 * 2 ^ count % 2 ^ 128) ≡ pos (2 ^ count)
power_is ctype count h = omega (arith, ints, count_small ctype count h)

shift_fits : (s : CType) (a : ℤ) (count : ℕ) → IsInRange s a → count < width_of s → FitsSigned w128 (a *ℤ pos (2 ^ count))
shift_fits s a count p h = fits_signed_mul w128 a (pos (2 ^ count)) (2 ^ 64 - 1) (2 ^ 63) (small s a p) (count_small s count h) (omega arith)

pub shifted_fits : (s : CType) (a x : ℤ) (count : ℕ) → IsInRange s a → x ≡ a → count < width_of s
    → FitsSigned w128 (to_z w128 (of_z w128 x) *ℤ to_z w128 (1 * 2 ^ count % 2 ^ 128))
shifted_fits s a x count p e h =
    let read : to_z w128 (of_z w128 x) ≡ a = omega (arith, ints, small s a p, e) in
    rw (read, power_is s count h) (shift_fits s a count p h)

pub shifted_exact : (s : CType) (a x : ℤ) (count : ℕ) → IsInRange s a → x ≡ a → count < width_of s
    → to_z w128 (of_z w128 (to_z w128 (of_z w128 x) *ℤ to_z w128 (1 * 2 ^ count % 2 ^ 128))) ≡ a *ℤ pos (2 ^ count)
shifted_exact s a x count p e h =
    let read : to_z w128 (of_z w128 x) ≡ a = omega (arith, ints, small s a p, e) in
    rw (read, power_is s count h) (to_z-of_z w128 (a *ℤ pos (2 ^ count)) (shift_fits s a count p h))

-- numbers that are stored alike are the same
pub same_read : (s t : CType) (a b x y : ℤ) → IsInRange s a → IsInRange t b → x ≡ a → y ≡ b → of_z w128 x ≡ of_z w128 y → a ≡ b
same_read s t a b x y p q e f same =
    sym (to_z-of_z w128 a (fits s a p)) ∙ ap (to_z w128) (ap (of_z w128) (sym e) ∙ same ∙ ap (of_z w128) f) ∙ to_z-of_z w128 b (fits t b q)
