use Rattle.std.proofs.Common.{◌≡◌, ◌∙◌, sym, true, false}
use Rattle.c11_num.specs.Arithmetic.{is_signed}
use Rattle.c11_num.proofs.Numbers.{same_exact, product_exact, unsigned_product}
use Rattle.c11_num.proofs.exact.product.Goals as goal

pub returns-then-is_signed : goal.returns-then-is_signed
returns-then-is_signed c =
    let signed : is_signed c.args.left.ctype ≡ true = cc in
    let number = product_exact _ _ _ _ _ _ c.requires signed c.number.ensures.in_range c.number-then-is_signed.ensures.in_range c.number.ensures.number c.number-then-is_signed.ensures.number in
    c.exact.ensures ∙ same_exact _ _ _ _ c.ctype-ctype.ensures number

pub returns : goal.returns
returns c =
    let unsigned : is_signed c.args.left.ctype ≡ false = cc in
    let left = c.number-2.ensures in
    let right = c.number-3.ensures in
    sym (unsigned_product _ _ _ _ _ _ _ _ _ _ _ c.requires unsigned left.in_range right.in_range c.ctype-ctype.ensures left.number right.number
    c.bits_of.ensures.bits c.bits_of-2.ensures.bits c.modulus.ensures c.of_bits.ensures.ctype c.of_bits.ensures.number)
