use Rattle.std.proofs.Common.{refl}
use Rattle.c11_num.specs.Operators as spec
use Rattle.c11_num.specs.Wrapping as modular
use Rattle.c11_num.proofs.operator.binary.Goals as goal

pub returns-in-And : goal.returns-in-And
unfolding spec.binary_of modular.wrapped modular.wrapping
returns-in-And c =
    rw (c.in-And.is, c.wrapping.ensures, c.convert-left.ensures, c.convert-right.ensures, c.usual-common.ensures, c.ctype.ensures, c.ctype-2.ensures) refl

pub returns-in-Xor : goal.returns-in-Xor
unfolding spec.binary_of modular.wrapped modular.wrapping
returns-in-Xor c =
    rw (c.in-Xor.is, c.wrapping-in-Xor.ensures, c.convert-left.ensures, c.convert-right.ensures, c.usual-common.ensures, c.ctype.ensures, c.ctype-2.ensures) refl

pub returns-in-Or : goal.returns-in-Or
unfolding spec.binary_of modular.wrapped modular.wrapping
returns-in-Or c =
    rw (c.in-Or.is, c.wrapping-in-Or.ensures, c.convert-left.ensures, c.convert-right.ensures, c.usual-common.ensures, c.ctype.ensures, c.ctype-2.ensures) refl
