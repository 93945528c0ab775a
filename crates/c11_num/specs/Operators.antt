-- The value of a binary operator, or why it has none (C11 6.5.5 to 6.5.12).
use Rattle.std.specs.Prelude.{ℕ, ◌^◌, Bool, not, ◌&&◌, if◌then◌else◌, ℤ, pos, ◌+ℤ◌, ◌-ℤ◌, ◌*ℤ◌, int_lt, int_le, int_div, int_rem, unsigned_abs, bit_and, bit_or, bit_xor, Result, Ok, Err}
use Rattle.std.specs.Int.{int_div_euclid}
use Rattle.std.specs.Ordering.{int_eq}
use Rattle.c11_num.specs.Ranges.{TypedNumber, least_of, most_of}
use Rattle.c11_num.specs.Wrapping.{width_of, bits_of, of_bits, wrapped, converted}
use Rattle.c11_num.specs.Arithmetic.{usual, is_signed}
use Rattle.c11_num.specs.declared.value.CType.{CType}
use Rattle.c11_num.specs.declared.value.CType.TheVariants.{Int}
use Rattle.c11_num.specs.declared.fault.NumFault.{NumFault}
use Rattle.c11_num.specs.declared.fault.NumFault.TheVariants.{Overflow, Divide, Shift}
use Rattle.c11_num.specs.declared.kind.BinaryOp.{BinaryOp}
use Rattle.c11_num.specs.declared.kind.BinaryOp.TheVariants.{Mul, Div, Rem, Add, Sub, Shl, Shr, Lt, Gt, Le, Ge, Eq, Ne, And, Xor, Or}

-- both operands are converted to their common type (C11 6.3.1.8)
abbrev pub common : TypedNumber → TypedNumber → CType
common x y = usual x.ctype y.ctype

abbrev pub left : TypedNumber → TypedNumber → ℤ
left x y = (converted (common x y) x).number

abbrev pub right : TypedNumber → TypedNumber → ℤ
right x y = (converted (common x y) y).number

-- the type holds the number
abbrev pub holds : CType → ℤ → Bool
holds ctype number = int_le (least_of ctype) number && int_le number (most_of ctype)

-- the exact result as a value of the type: the number itself where the type holds it; else a signed type refuses it, and in an
-- unsigned one it counts modulo two to the width (C11 6.2.5 and 6.5)
unfoldable pub exact : CType → ℤ → Result TypedNumber NumFault
exact ctype number =
    if holds ctype number then Ok (record { ctype = ctype; number = number })
    else if is_signed ctype then Err Overflow
    else Ok (wrapped ctype number)

-- the value of a quotient or a remainder by this divisor
unfoldable pub unless_zero : ℤ → Result TypedNumber NumFault → Result TypedNumber NumFault
unless_zero divisor value = if int_eq divisor (pos 0) then Err Divide else value

-- the count is not negative, and below the width of the type
abbrev pub is_count : CType → ℤ → Bool
is_count ctype count = int_le (pos 0) count && int_lt count (pos (width_of ctype))

-- the value of a shift of x by this count
unfoldable pub if_counted : TypedNumber → ℤ → Result TypedNumber NumFault → Result TypedNumber NumFault
if_counted x count value = if is_count x.ctype count then value else Err Shift

-- x times two to the count, of a negative x none; only one of a signed type can be negative (C11 6.5.7)
unfoldable pub shifted_left : TypedNumber → ℕ → Result TypedNumber NumFault
shifted_left x count = if int_lt x.number (pos 0) then Err Overflow else exact x.ctype (x.number *ℤ pos (2 ^ count))

-- x over two to the count, rounded down (C11 6.5.7; of a negative x this project's own)
abbrev pub shifted_right : TypedNumber → ℕ → TypedNumber
shifted_right x count = record { ctype = x.ctype; number = int_div_euclid x.number (pos (2 ^ count)) }

-- what a comparison gives
abbrev pub truth : Bool → TypedNumber
truth test = record { ctype = Int; number = if test then pos 1 else pos 0 }

-- the number of the common type with these bits
abbrev pub from_bits : TypedNumber → TypedNumber → (ℕ → ℕ → ℕ) → TypedNumber
from_bits x y combined = record {
  ctype = common x y;
  number = of_bits (common x y) (combined (bits_of (common x y) (left x y)) (bits_of (common x y) (right x y)));
}

-- quotients round toward zero, and a remainder has the sign of the dividend
unfoldable pub binary_of : BinaryOp → TypedNumber → TypedNumber → Result TypedNumber NumFault
binary_of Mul x y = exact (common x y) (left x y *ℤ right x y)
binary_of Div x y = unless_zero (right x y) (exact (common x y) (int_div (left x y) (right x y)))
binary_of Rem x y = unless_zero (right x y) (exact (common x y) (int_rem (left x y) (right x y)))
binary_of Add x y = exact (common x y) (left x y +ℤ right x y)
binary_of Sub x y = exact (common x y) (left x y -ℤ right x y)
binary_of Shl x y = if_counted x y.number (shifted_left x (unsigned_abs y.number))
binary_of Shr x y = if_counted x y.number (Ok (shifted_right x (unsigned_abs y.number)))
binary_of Lt x y = Ok (truth (int_lt (left x y) (right x y)))
binary_of Gt x y = Ok (truth (int_lt (right x y) (left x y)))
binary_of Le x y = Ok (truth (int_le (left x y) (right x y)))
binary_of Ge x y = Ok (truth (int_le (right x y) (left x y)))
binary_of Eq x y = Ok (truth (int_eq (left x y) (right x y)))
binary_of Ne x y = Ok (truth (not (int_eq (left x y) (right x y))))
binary_of And x y = Ok (from_bits x y bit_and)
binary_of Xor x y = Ok (from_bits x y bit_xor)
binary_of Or x y = Ok (from_bits x y bit_or)
