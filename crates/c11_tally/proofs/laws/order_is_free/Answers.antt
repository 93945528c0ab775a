use Rattle.c11_tally.proofs.Printed.{order_is_free}
use Rattle.c11_tally.proofs.laws.order_is_free.Goals as goal

pub returns : goal.returns
returns c = order_is_free
