use Rattle.c11_lexer.proofs.Longest.{some_longest}
use Rattle.c11_lexer.proofs.laws.some_longest.Goals as goal

pub returns : goal.returns
returns c = some_longest
