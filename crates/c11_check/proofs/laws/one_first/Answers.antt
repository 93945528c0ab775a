use Rattle.c11_check.proofs.Firsts.{one_is_first}
use Rattle.c11_check.proofs.laws.one_first.Goals as goal

pub returns : goal.returns
returns c = one_is_first
