use Rattle.c11_machine.proofs.Standings.{asks_where_wanted}
use Rattle.c11_machine.proofs.laws.asks_where_wanted.Goals as goal

pub returns : goal.returns
returns c = asks_where_wanted
