use Rattle.std.proofs.Common.{◌∙◌, sym}
use Rattle.c11_num.proofs.Numbers.{same_exact, quotient_exact, past_zero}
use Rattle.c11_num.proofs.exact.quotient.Goals as goal

pub returns : goal.returns
returns c =
    let number = quotient_exact _ _ _ _ _ _ c.number-2.ensures.in_range c.number-3.ensures.in_range c.number-2.ensures.number c.number-3.ensures.number in
    c.exact.ensures ∙ same_exact _ _ _ _ c.ctype.ensures number ∙ sym (past_zero _ _ _ c.number.ensures.number c.if-number-eq0.false)
