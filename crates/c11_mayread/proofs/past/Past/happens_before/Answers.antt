use Rattle.std.proofs.Common.{◌∙◌, ap}
use Rattle.c11_mayread.specs.Facts.{Facts}
use Rattle.c11_mayread.proofs.Texted.{before_as}
use Rattle.c11_mayread.proofs.past.Past.happens_before.Goals as goal

pub returns : goal.returns
returns c = λ events past. before_as c.self.inside.happens.events events (ap (λ (f : Facts). f.happens.events) c.self.view_is ∙ past.happens) c.args.a c.args.b c.before-answer.result c.before-answer.ensures
