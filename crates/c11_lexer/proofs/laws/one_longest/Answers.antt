use Rattle.c11_lexer.proofs.Longest.{one_longest}
use Rattle.c11_lexer.proofs.laws.one_longest.Goals as goal

pub returns : goal.returns
returns c = one_longest
