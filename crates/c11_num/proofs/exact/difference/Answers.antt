use Rattle.std.proofs.Common.{◌∙◌}
use Rattle.c11_num.proofs.Numbers.{same_exact, difference_exact}
use Rattle.c11_num.proofs.exact.difference.Goals as goal

pub returns : goal.returns
returns c =
    let number = difference_exact _ _ _ _ _ _ c.number.ensures.in_range c.number-2.ensures.in_range c.number.ensures.number c.number-2.ensures.number in
    c.exact.ensures ∙ same_exact _ _ _ _ c.ctype.ensures number
