-- Integer constants and their types (ISO/IEC 9899:2011, 6.4.4.1).
use Rattle.std.specs.Prelude.{◌≡◌, ◌≢◌, ◌<◌, ℕ, Bool, true, ◌&&◌, ◌||◌, if◌then◌else◌, ◌==◌, List, [], ◌∷◌, ◌++◌, length, Option, Some, None, ℤ, pos, ◌⊎◌}
use Rattle.std.specs.Char.{is_digit}
use Rattle.std.specs.Str.Parse.{digits_value}
use Rattle.c11_num.specs.Ranges.{TypedNumber, IsInRange}
use Rattle.c11_num.specs.declared.value.CType.{CType}
use Rattle.c11_num.specs.declared.value.CType.TheVariants as c
use Rattle.c11_lexer.specs.declared.number.Base.{Base}
use Rattle.c11_lexer.specs.declared.number.Base.TheVariants as b
use Rattle.c11_lexer.specs.declared.number.Suffix.{Suffix}
use Rattle.c11_lexer.specs.declared.number.Suffix.TheVariants as x
use Rattle.c11_lexer.specs.Pieces.{Text, Every}

abbrev pub radix : Base → ℕ
radix b.Decimal = 10
radix b.Octal = 8
radix b.Hexadecimal = 16

unfoldable pub is_digit_of : Base → ℕ → Bool
is_digit_of base byte = is_digit byte (radix base)

-- `u` or `U`
unfoldable pub is_u : ℕ → Bool
is_u byte = byte == 117 || byte == 85

-- `l` or `L`
unfoldable pub is_l : ℕ → Bool
is_l byte = byte == 108 || byte == 76

-- one `u` or `U` and one `l` or `L` at most, in either order
unfoldable pub suffix_of : Text → Option Suffix
suffix_of [] = Some x.Plain
suffix_of (d ∷ []) = if is_u d then Some x.U else (if is_l d then Some x.L else None)
suffix_of (d ∷ e ∷ []) = if (is_u d && is_l e) || (is_l d && is_u e) then Some x.UL else None
suffix_of (d ∷ e ∷ f ∷ t) = None

-- digits of the base, and then a suffix
pub record Spelled (base : Base) (t digits : Text) (suffix : Suffix) : Type 0 where
  pub ending : Text
  pub split : t ≡ digits ++ ending
  pub all : Every (is_digit_of base) digits
  pub suffix_is : suffix_of ending ≡ Some suffix

-- The bytes are a number of this base, with these digits and this suffix.
pub data IsNumber : Text → Base → Text → Suffix → Type 0 where
  decimal : {d : ℕ} {t digits : Text} {suffix : Suffix} → d ≢ 48 → is_digit_of b.Decimal d ≡ true → Spelled b.Decimal (d ∷ t) digits suffix
      → IsNumber (d ∷ t) b.Decimal digits suffix
  octal : {t digits : Text} {suffix : Suffix} → Spelled b.Octal t digits suffix → IsNumber (48 ∷ t) b.Octal digits suffix
  -- after `0x` or `0X`
  hexadecimal : {d : ℕ} {t digits : Text} {suffix : Suffix} → (d ≡ 120) ⊎ (d ≡ 88) → 0 < length digits → Spelled b.Hexadecimal t digits suffix
      → IsNumber (48 ∷ d ∷ t) b.Hexadecimal digits suffix

-- the bytes are some number
abbrev pub SpellsNumber : Text → Type 0
SpellsNumber t = (base : Base) × (digits : Text) × (suffix : Suffix) × IsNumber t base digits suffix

-- the types that a number may have, in their order
abbrev pub types_of : Base → Suffix → List CType
types_of b.Decimal x.Plain = c.Int ∷ c.Long ∷ []
types_of b.Octal x.Plain = c.Int ∷ c.Unsigned ∷ c.Long ∷ c.ULong ∷ []
types_of b.Hexadecimal x.Plain = c.Int ∷ c.Unsigned ∷ c.Long ∷ c.ULong ∷ []
types_of base x.U = c.Unsigned ∷ c.ULong ∷ []
types_of b.Decimal x.L = c.Long ∷ []
types_of b.Octal x.L = c.Long ∷ c.ULong ∷ []
types_of b.Hexadecimal x.L = c.Long ∷ c.ULong ∷ []
types_of base x.UL = c.ULong ∷ []

-- the first type of a list that holds the number
pub data FirstHolding (number : ℤ) : List CType → CType → Type 0 where
  here : {ctype : CType} {others : List CType} → IsInRange ctype number → FirstHolding number (ctype ∷ others) ctype
  later : {other ctype : CType} {others : List CType} → (IsInRange other number → ⊥) → FirstHolding number others ctype
      → FirstHolding number (other ∷ others) ctype

-- The bytes are a literal of this value.
pub record IsLiteral (t : Text) (value : TypedNumber) : Type 0 where
  pub base : Base
  pub digits : Text
  pub suffix : Suffix
  pub is : IsNumber t base digits suffix
  pub number_is : value.number ≡ pos (digits_value (radix base) digits)
  pub type_is : FirstHolding value.number (types_of base suffix) value.ctype
