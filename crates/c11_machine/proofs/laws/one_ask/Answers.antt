use Rattle.c11_machine.proofs.Advances.{one_ask}
use Rattle.c11_machine.proofs.laws.one_ask.Goals as goal

pub returns : goal.returns
returns c = one_ask
