use Rattle.c11_lexer.proofs.Scanning.{slices_rise}
use Rattle.c11_lexer.proofs.laws.slices_rise.Goals as goal

pub returns : goal.returns
returns c = slices_rise
