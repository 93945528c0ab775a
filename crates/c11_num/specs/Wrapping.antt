-- Numbers modulo two to the width: conversions, and what a read-modify-write writes (C11 6.3.1.3 and 7.17.7.5; signed types in two's complement).
use Rattle.std.specs.Prelude.{ℕ, ◌+◌, ◌-◌, ◌%◌, ◌^◌, ℤ, pos, unsigned_abs, bit_and, bit_or, bit_xor}
use Rattle.std.specs.Int.{cast_signed, int_rem_euclid, w32, w64}
use Rattle.c11_num.specs.Ranges.{TypedNumber}
use Rattle.c11_num.specs.declared.value.CType.{CType}
use Rattle.c11_num.specs.declared.value.CType.TheVariants.{Int, Unsigned, Long, ULong}
use Rattle.c11_num.specs.declared.kind.RmwKind.{RmwKind}
use Rattle.c11_num.specs.declared.kind.RmwKind.TheVariants.{Exchange, Add, Sub, And, Or, Xor}

abbrev pub width_of : CType → ℕ
width_of Int = 32
width_of Unsigned = 32
width_of Long = 64
width_of ULong = 64

-- the bits of a number in two's complement: the number modulo two to the width, also where the type does not hold it
abbrev pub bits_of : CType → ℤ → ℕ
bits_of ctype number = unsigned_abs (int_rem_euclid number (pos (2 ^ width_of ctype)))

-- the number of the type with these bits
abbrev pub of_bits : CType → ℕ → ℤ
of_bits Int bits = cast_signed w32 bits
of_bits Unsigned bits = pos bits
of_bits Long bits = cast_signed w64 bits
of_bits ULong bits = pos bits

-- the bits of the result, by the width, the old bits and the operand's
abbrev pub combined : RmwKind → ℕ → ℕ → ℕ → ℕ
combined Exchange width old operand = operand
combined Add width old operand = (old + operand) % 2 ^ width
combined Sub width old operand = (old + (2 ^ width - operand)) % 2 ^ width
combined And width old operand = bit_and old operand
combined Or width old operand = bit_or old operand
combined Xor width old operand = bit_xor old operand

-- the number modulo two to the width of the type, as a value of it
unfoldable pub wrapped : CType → ℤ → TypedNumber
wrapped ctype number = record { ctype = ctype; number = of_bits ctype (bits_of ctype number) }

-- the value in another type (C11 6.3.1.3; for signed types this project's own)
abbrev pub converted : CType → TypedNumber → TypedNumber
converted to value = wrapped to value.number

-- the new value of a read-modify-write; an operand of another type counts modulo two to the width, as if converted first
unfoldable pub wrapping : RmwKind → TypedNumber → TypedNumber → TypedNumber
wrapping kind old operand = record {
  ctype = old.ctype;
  number = of_bits old.ctype (combined kind (width_of old.ctype) (bits_of old.ctype old.number) (bits_of old.ctype operand.number));
}
