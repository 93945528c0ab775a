use Rattle.c11_meaning.proofs.Again.{asks_no_more}
use Rattle.c11_meaning.proofs.laws.asks_no_more.Goals as goal

pub returns : goal.returns
returns c = asks_no_more
