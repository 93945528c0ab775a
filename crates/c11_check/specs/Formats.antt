-- The texts of `printf` (C11 7.21.6.1, of which only `%d`, `%u`, `%ld`, `%lu` and `%%` are in the language).
use Rattle.std.specs.Prelude.{ℕ, ◌==◌, List, [], ◌∷◌, length, Option, Some, None, if◌then◌else◌}
use Rattle.c11_num.specs.declared.value.CType.{CType}
use Rattle.c11_num.specs.declared.value.CType.TheVariants as c
use Rattle.c11_check.specs.declared.format.Within.{Within}
use Rattle.c11_check.specs.declared.format.Within.TheVariants as w

-- where the next byte stands, and the type of the value that this byte asks for: a `%` with `d` (100), `u` (117), `ld` (`l` is 108), `lu` or `%` (37); none where it begins none of these
abbrev pub format_step : Within → ℕ → Option (Within × Option CType)
format_step w.Plain b = if b == 37 then Some (w.AfterPercent, None) else Some (w.Plain, None)
format_step w.AfterPercent b = if b == 37 then Some (w.Plain, None) else (if b == 100 then Some (w.Plain, Some c.Int)
    else (if b == 117 then Some (w.Plain, Some c.Unsigned) else (if b == 108 then Some (w.AfterLong, None) else None)))
format_step w.AfterLong b = if b == 100 then Some (w.Plain, Some c.Long) else (if b == 117 then Some (w.Plain, Some c.ULong) else None)

abbrev pub with_type : Option CType → Option (List CType) → Option (List CType)
with_type None types = types
with_type (Some ctype) None = None
with_type (Some ctype) (Some types) = Some (ctype ∷ types)

abbrev pub with_step : Option (Within × Option CType) → (Within → Option (List CType)) → Option (List CType)
with_step None rest = None
with_step (Some step) rest = with_type step.1 (rest step.0)

-- the types of the values that the rest of a text asks for, in their order; none where a `%` begins no conversion
abbrev pub conversions : Within → List ℕ → Option (List CType)
conversions w.Plain [] = Some []
conversions w.AfterPercent [] = None
conversions w.AfterLong [] = None
conversions within (b ∷ bs) = with_step (format_step within b) (λ next. conversions next bs)

abbrev pub how_many : Option (List CType) → Option ℕ
how_many None = None
how_many (Some types) = Some (length types)

-- how many values a text asks for
abbrev pub values_of_format : List ℕ → Option ℕ
values_of_format bytes = how_many (conversions w.Plain bytes)
