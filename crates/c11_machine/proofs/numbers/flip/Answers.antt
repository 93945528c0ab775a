use Rattle.std.proofs.Common.{ap, arith, sym, ◌-◌, ◌^◌, ◌∙◌, ◌≡◌}
use Rattle.std.proofs.lemmas.Int.{ints, to_z-of_z}
use Rattle.std.specs.Prelude.{negsuc, pos, ℤ, ◌-ℤ◌}
use Rattle.c11_machine.proofs.Ranges.{flip_ulong, ulong_held}
use Rattle.c11_num.specs.Wrapping.{wrapped}
use Rattle.c11_num.specs.declared.value.CType.{CType}
use Rattle.c11_num.specs.declared.value.CType.TheVariants as ctype
use Rattle.c11_machine.proofs.numbers.flip.Goals as goal

pub returns-in-ULong : goal.returns-in-ULong
returns-in-ULong c =
    let same = c.number-in-ULong.ensures.number in
    let is_ulong : c.args.value.ctype ≡ ctype.ULong = sym c.ctype-ctype.ensures ∙ c.in-ULong.is in
    let held = ulong_held c.args.value is_ulong c.number-in-ULong.ensures.in_range in
    let number : c.new-in-ULong.result.number ≡ pos (2 ^ 64 - 1) -ℤ c.args.value.number = grind (arith, ints, to_z-of_z) in
    c.convert-in-ULong.ensures ∙ (ap (λ (t : CType). wrapped t c.new-in-ULong.result.number) c.in-ULong.is ∙ (ap (λ (z : ℤ). wrapped ctype.ULong z) number
    ∙ (flip_ulong c.args.value.number held ∙ ap (λ (t : CType). wrapped t (negsuc 0 -ℤ c.args.value.number)) (sym is_ulong))))
