use Rattle.c11_plain.proofs.Filling.{if_ok}
use Rattle.c11_plain.proofs.Extending.{order_length}
use Rattle.c11_plain.proofs.consistent.has_order.Goals as goal

pub returns : goal.returns
returns c = if_ok c.extends.result c.extends.ensures (λ found e. (
  λ h. let x = e.0 h in record { order = x.rest; lawful = x.lawful },
  λ o. e.1 (record { rest = o.order; within = order_length c.args.events.now c.args.cell o.order c.args.all.now.count c.requires.count o.lawful; lawful = o.lawful }),
))
