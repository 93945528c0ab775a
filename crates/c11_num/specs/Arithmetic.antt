-- Conversions and unary minus (C11 6.3.1.8 and 6.5.3.3).
use Rattle.std.specs.Prelude.{ℕ, ◌≡◌, Bool, true, false, ℤ, nat_lt, if◌then◌else◌}
use Rattle.c11_num.specs.Ranges.{IsInRange}
use Rattle.c11_num.specs.declared.value.CType.{CType}
use Rattle.c11_num.specs.declared.value.CType.TheVariants.{Int, Unsigned, Long, ULong}

-- the types in the order of their ranks, an unsigned type behind the signed one of its width
abbrev pub place_of : CType → ℕ
place_of Int = 0
place_of Unsigned = 1
place_of Long = 2
place_of ULong = 3

-- the common type of two operands: the later one
abbrev pub usual : CType → CType → CType
usual a b = if nat_lt (place_of a) (place_of b) then b else a

abbrev pub is_signed : CType → Bool
is_signed Int = true
is_signed Unsigned = false
is_signed Long = true
is_signed ULong = false

-- the exact result is outside its signed type; an unsigned type has no overflow (C11 6.2.5 and 6.5)
abbrev pub Overflows : CType → ℤ → Type 0
Overflows ctype exact = (is_signed ctype ≡ true) × (IsInRange ctype exact → ⊥)
