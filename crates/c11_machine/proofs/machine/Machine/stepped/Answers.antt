use Rattle.c11_machine.specs.Effects.{ActsAs}
use Rattle.std.proofs.Common.{◌∙◌}
use Rattle.c11_machine.proofs.machine.Machine.stepped.Goals as goal

pub returns-in_default : goal.returns-in_default
unfolding ActsAs
returns-in_default c code = c.in_default.ensures.value _

pub returns-in_default-value_at : goal.returns-in_default-value_at
unfolding ActsAs
returns-in_default-value_at c code = c.in-Some.ensures.value _ ∙ c.in_default-value_at.ensures.value _

pub returns-in_default-found : goal.returns-in_default-found
unfolding ActsAs
returns-in_default-found c code = c.in-Some.ensures.value _ ∙ (c.in-Some-value_at.ensures.value _ ∙ c.in_default-found.ensures _)

pub returns : goal.returns
unfolding ActsAs
returns c code = c.in-Some.ensures.value _ ∙ (c.in-Some-value_at.ensures.value _ ∙ (c.in-Some-found.ensures _ ∙ c.writes.ensures))
