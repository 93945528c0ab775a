use Rattle.c11_scorder.proofs.Deciding.{fences_decide}
use Rattle.c11_scorder.proofs.laws.fences_decide.Goals as goal

pub returns : goal.returns
returns c = fences_decide
