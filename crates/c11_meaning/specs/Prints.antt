-- What `printf` writes (C11 7.21.6.1, of which `%d`, `%u`, `%ld`, `%lu` and `%%` are in the language).
use Rattle.std.specs.Prelude.{ℕ, ◌==◌, List, [], ◌∷◌, ◌++◌, if◌then◌else◌}
use Rattle.std.specs.Fmt.{signed_decimal}
use Rattle.c11_num.specs.Ranges.{TypedNumber}
use Rattle.c11_num.specs.Wrapping.{converted}
use Rattle.c11_num.specs.declared.value.CType.{CType}
use Rattle.c11_num.specs.declared.value.CType.TheVariants as c
use Rattle.c11_check.specs.declared.format.Within.{Within}
use Rattle.c11_check.specs.declared.format.Within.TheVariants.{Plain, AfterPercent, AfterLong}

-- the next value, in the type of its conversion
abbrev pub next_printed : CType → List TypedNumber → List ℕ
next_printed ctype [] = []
next_printed ctype (value ∷ values) = signed_decimal (converted ctype value).number

abbrev pub rest_of : List TypedNumber → List TypedNumber
rest_of [] = []
rest_of (value ∷ values) = values

-- the bytes of the text, where each conversion prints the next of the values
abbrev pub printed : Within → List ℕ → List TypedNumber → List ℕ
printed within [] values = []
printed Plain (b ∷ bs) values = if b == 37 then printed AfterPercent bs values else b ∷ printed Plain bs values
printed AfterPercent (b ∷ bs) values = if b == 37 then 37 ∷ printed Plain bs values
    else (if b == 100 then next_printed c.Int values ++ printed Plain bs (rest_of values)
    else (if b == 117 then next_printed c.Unsigned values ++ printed Plain bs (rest_of values) else printed AfterLong bs values))
printed AfterLong (b ∷ bs) values = if b == 100 then next_printed c.Long values ++ printed Plain bs (rest_of values)
    else next_printed c.ULong values ++ printed Plain bs (rest_of values)
