use Rattle.std.proofs.Common.{arith}
use Rattle.c11_plain.proofs.Keeping.{keeps_all}
use Rattle.c11_plain.proofs.lawful.first_broken.Goals as goal

pub returns : goal.returns
returns c = keeps_all c.args.events.now c.args.cell c.args.order.now c.loop-place.place (omega arith) c.loop-place.invariant
