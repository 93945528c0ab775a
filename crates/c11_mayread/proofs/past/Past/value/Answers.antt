use Rattle.std.proofs.Common.{◌-◌, sym, subst, arith}
use Rattle.c11_latest.proofs.Places.{get_of_index}
use Rattle.c11_mayread.specs.Facts.{Facts, IsPastOf}
use Rattle.c11_mayread.specs.Sound.{facts_of}
use Rattle.c11_mayread.proofs.Recalling.{value_at}
use Rattle.c11_mayread.proofs.past.Past.value.Goals as goal

pub returns : goal.returns
returns c = λ events now le.
    let past : IsPastOf (facts_of c.self.inside) events = subst (λ (f : Facts). IsPastOf f events) (sym c.self.view_is) now in
    let count = past.count in
    value_at (facts_of c.self.inside) events past c.args.x c.index.result.now (omega arith) le
    (get_of_index c.self.inside.kept.items (c.args.x - 1) c.index.result.now (omega (arith, count)) c.index.ensures)
