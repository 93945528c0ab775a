use Rattle.c11_scorder.proofs.Deciding.{answers_decide}
use Rattle.c11_scorder.proofs.laws.answers_decide.Goals as goal

pub returns : goal.returns
returns c = answers_decide
