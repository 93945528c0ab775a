use Rattle.std.proofs.Common.{◌∙◌, ap}
use Rattle.c11_mayread.specs.Facts.{Facts}
use Rattle.c11_mayread.proofs.Texted.{last_as, started_as, unborn_as}
use Rattle.c11_mayread.proofs.past.Past.clock.Goals as goal

pub returns-clause-last : goal.returns-clause-last
returns-clause-last c = λ events past. last_as c.self.inside.happens.events events (ap (λ (f : Facts). f.happens.events) c.self.view_is ∙ past.happens) c.args.thread c.clock.result.now c.clock.ensures.last

pub returns-clause-started : goal.returns-clause-started
returns-clause-started c = λ events past. started_as c.self.inside.happens.events events (ap (λ (f : Facts). f.happens.events) c.self.view_is ∙ past.happens) c.args.thread c.clock.result.now c.clock.ensures.started

pub returns-clause-unborn : goal.returns-clause-unborn
returns-clause-unborn c = λ events past. unborn_as c.self.inside.happens.events events (ap (λ (f : Facts). f.happens.events) c.self.view_is ∙ past.happens) c.args.thread c.clock.result.now c.clock.ensures.unborn
