use Rattle.c11_check.proofs.Firsts.{some_is_first}
use Rattle.c11_check.proofs.laws.some_first.Goals as goal

pub returns : goal.returns
returns c = some_is_first
