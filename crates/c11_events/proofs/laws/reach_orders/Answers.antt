use Rattle.c11_events.proofs.Adding.{reach_orders, reach_stays}
use Rattle.c11_events.proofs.laws.reach_orders.Goals as goal

pub returns-clause-orders : goal.returns-clause-orders
returns-clause-orders c = reach_orders

pub returns-clause-stays : goal.returns-clause-stays
returns-clause-stays c = reach_stays
