use Rattle.c11_turn.proofs.Asking.{asks_until_over}
use Rattle.c11_turn.proofs.laws.asks_until_over.Goals as goal

pub returns : goal.returns
returns c = asks_until_over c.asks_are_legal.ensures c.asks_again.ensures c.asks_no_more.ensures c.faultless_lies_within.ensures
