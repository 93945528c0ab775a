use Rattle.c11_lexer.proofs.Slices.{slices_are_some}
use Rattle.c11_lexer.proofs.laws.slices_are_some.Goals as goal

pub returns : goal.returns
returns c = slices_are_some
