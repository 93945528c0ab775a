use Rattle.c11_meaning.proofs.Threads.{asks_are_legal}
use Rattle.c11_meaning.proofs.laws.asks_are_legal.Goals as goal

pub returns : goal.returns
returns c = asks_are_legal
