use Rattle.std.proofs.Common.{arith, refl}
use Rattle.c11_plain.proofs.Filling.{tabulates}
use Rattle.c11_plain.proofs.pairs.Pairs.new.Goals as goal

pub returns : goal.returns
returns g c = tabulates c.args.count _ _ c.loop-place.place refl (omega arith) c.loop-place.invariant.1
