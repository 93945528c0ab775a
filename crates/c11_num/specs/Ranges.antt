-- The ranges of the integer types (ISO/IEC 9899:2011, 5.2.4.2.1 and 6.2.6.2; the widths are this project's own).
use Rattle.std.specs.Prelude.{◌-◌, ◌^◌, ℤ, pos, negsuc, ◌≤ℤ◌}
use Rattle.c11_num.specs.declared.value.CType.{CType}
use Rattle.c11_num.specs.declared.value.CType.TheVariants.{Int, Unsigned, Long, ULong}

-- a number with its type
pub record TypedNumber : Type 0 where
  pub ctype : CType
  pub number : ℤ

-- the least number of a type; `negsuc n` is -(n + 1)
abbrev pub least_of : CType → ℤ
least_of Int = negsuc (2 ^ 31 - 1)
least_of Unsigned = pos 0
least_of Long = negsuc (2 ^ 63 - 1)
least_of ULong = pos 0

-- the largest number of a type
abbrev pub most_of : CType → ℤ
most_of Int = pos (2 ^ 31 - 1)
most_of Unsigned = pos (2 ^ 32 - 1)
most_of Long = pos (2 ^ 63 - 1)
most_of ULong = pos (2 ^ 64 - 1)

-- the type holds the number
abbrev pub IsInRange : CType → ℤ → Type 0
IsInRange ctype number = (least_of ctype ≤ℤ number) × (number ≤ℤ most_of ctype)
