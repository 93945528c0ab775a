use Rattle.c11_machine.specs.Effects.{ActsAs}
use Rattle.std.proofs.Common.{◌∙◌}
use Rattle.c11_machine.proofs.Effects.{answer_none, answer_some}
use Rattle.c11_machine.proofs.machine.Machine.join.Goals as goal

pub returns-in_default : goal.returns-in_default
unfolding ActsAs
returns-in_default c code = answer_some c.args.answer _ _ _ c.in-Some.is ∙ c.in_default.ensures _

pub returns-in-None : goal.returns-in-None
unfolding ActsAs
returns-in-None c code = answer_none c.args.answer _ _ c.in-None.is ∙ c.joins.ensures

pub returns-in-Some-found : goal.returns-in-Some-found
unfolding ActsAs
returns-in-Some-found c code = answer_some c.args.answer _ _ _ c.in-Some.is ∙ (c.in-Some-found.ensures _ ∙ c.joins-in-Some.ensures)
