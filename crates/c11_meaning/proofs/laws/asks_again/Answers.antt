use Rattle.c11_meaning.proofs.Again.{asks_again}
use Rattle.c11_meaning.proofs.laws.asks_again.Goals as goal

pub returns : goal.returns
returns c = asks_again
