use Rattle.c11_plain.proofs.Keeping.{none_lawful}
use Rattle.c11_plain.proofs.lawful.keeps_all.Goals as goal

pub returns : goal.returns
returns c = none_lawful c.args.events.now c.args.cell c.args.order.now c.first_broken.result c.is_none.result c.is_none.ensures c.first_broken.ensures
