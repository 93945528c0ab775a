use Rattle.c11_machine.proofs.Standings.{asks_where_code_asks}
use Rattle.c11_machine.proofs.laws.asks_where_code_asks.Goals as goal

pub returns : goal.returns
returns c = asks_where_code_asks
