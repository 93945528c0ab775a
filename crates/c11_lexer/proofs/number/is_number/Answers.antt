use Rattle.c11_lexer.proofs.Numbers.{spells}
use Rattle.c11_lexer.proofs.number.is_number.Goals as goal

pub returns : goal.returns
returns c = spells _ _ _ _ c.number_of.ensures c.is_some.ensures
