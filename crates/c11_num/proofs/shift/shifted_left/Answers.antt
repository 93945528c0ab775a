use Rattle.std.proofs.Common.{◌≡◌, ◌∙◌, false, ◌^◌, pos, ◌*ℤ◌, int_lt, arith, refl}
use Rattle.std.proofs.lemmas.Int.{ints}
use Rattle.c11_num.specs.Operators as spec
use Rattle.c11_num.proofs.Numbers.{same_exact, shifted_fits, shifted_exact}
use Rattle.c11_num.proofs.shift.shifted_left.Goals as goal

pub overflow_mul-number : goal.overflow_mul-number
overflow_mul-number c = shifted_fits _ _ _ _ c.number-2.ensures.in_range c.number-2.ensures.number c.requires

pub returns : goal.returns
unfolding spec.shifted_left
returns c =
    let x = c.args.value in
    let some : int_lt x.number (pos 0) ≡ false = grind (arith, ints, c.if-number-lt0.false, c.number.ensures.number) in
    let number = shifted_exact _ _ _ _ c.number-2.ensures.in_range c.number-2.ensures.number c.requires in
    let e : spec.exact x.ctype (x.number *ℤ pos (2 ^ c.args.count)) ≡ spec.shifted_left x c.args.count = rw some refl in
    c.exact.ensures ∙ same_exact _ _ _ _ c.ctype.ensures number ∙ e
