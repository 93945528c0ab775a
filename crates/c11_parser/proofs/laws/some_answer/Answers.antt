use Rattle.c11_parser.proofs.Sources.{some_answer}
use Rattle.c11_parser.proofs.laws.some_answer.Goals as goal

pub returns : goal.returns
returns c = some_answer
