use Rattle.c11_turn.proofs.Histories.{histories_short}
use Rattle.c11_turn.proofs.laws.histories_are_short.Goals as goal

pub returns : goal.returns
returns c = histories_short c.asks_are_legal.ensures
