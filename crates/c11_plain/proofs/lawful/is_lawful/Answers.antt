use Rattle.c11_plain.proofs.Keeping.{none_lawful}
use Rattle.c11_plain.proofs.lawful.is_lawful.Goals as goal

pub returns : goal.returns
returns c = none_lawful c.args.events.now c.args.cell c.args.order.now c.in_ok-broken_rule.field-0 c.is_none.result c.is_none.ensures c.in_ok-broken_rule.ensures
