-- What the bytes of a text for `printf` stand for.
use Rattle.std.specs.Prelude.{ℕ, ◌==◌, List, [], ◌∷◌, if◌then◌else◌}
use Rattle.c11_num.specs.Ranges.{TypedNumber}
use Rattle.c11_num.specs.declared.value.CType.TheVariants as c
use Rattle.c11_check.specs.declared.format.Within.{Within}
use Rattle.c11_check.specs.declared.format.Within.TheVariants.{Plain, AfterPercent, AfterLong}
use Rattle.c11_meaning.specs.Prints.{next_printed, rest_of}
use Rattle.c11_machine.specs.declared.print.Part.{Part}
use Rattle.c11_machine.specs.declared.print.Part.TheVariants.{Byte, Number, Nothing}

abbrev pub part_at : Within → ℕ → Part
part_at Plain b = if b == 37 then Nothing else Byte b
part_at AfterPercent b = if b == 37 then Byte 37 else (if b == 100 then Number c.Int else (if b == 117 then Number c.Unsigned else Nothing))
part_at AfterLong b = if b == 100 then Number c.Long else Number c.ULong

abbrev pub within_after : Within → ℕ → Within
within_after Plain b = if b == 37 then AfterPercent else Plain
within_after AfterPercent b = if b == 37 then Plain else (if b == 100 then Plain else (if b == 117 then Plain else AfterLong))
within_after AfterLong b = Plain

abbrev pub shown : Part → List TypedNumber → List ℕ
shown (Byte b) values = b ∷ []
shown (Number ctype) values = next_printed ctype values
shown Nothing values = []

abbrev pub left_by : Part → List TypedNumber → List TypedNumber
left_by (Byte b) values = values
left_by (Number ctype) values = rest_of values
left_by Nothing values = values
