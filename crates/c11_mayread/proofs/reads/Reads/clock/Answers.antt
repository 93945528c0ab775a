use Rattle.std.proofs.Common.{sym, ap, subst}
use Rattle.c11_mayread.specs.Facts.{Facts, IsPastOf}
use Rattle.c11_mayread.specs.Standing.{Words}
use Rattle.c11_mayread.proofs.reads.Reads.clock.Goals as goal

pub returns-clause-last : goal.returns-clause-last
returns-clause-last c = λ events stands. c.clock.ensures.last events (subst (λ (f : Facts). IsPastOf f events) (sym (ap (λ (w : Words). w.past) c.self.view_is)) stands.past)

pub returns-clause-started : goal.returns-clause-started
returns-clause-started c = λ events stands. c.clock.ensures.started events (subst (λ (f : Facts). IsPastOf f events) (sym (ap (λ (w : Words). w.past) c.self.view_is)) stands.past)

pub returns-clause-unborn : goal.returns-clause-unborn
returns-clause-unborn c = λ events stands. c.clock.ensures.unborn events (subst (λ (f : Facts). IsPastOf f events) (sym (ap (λ (w : Words). w.past) c.self.view_is)) stands.past)
