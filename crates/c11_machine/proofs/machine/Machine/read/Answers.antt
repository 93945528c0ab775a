use Rattle.std.proofs.Common.{◌∙◌}
use Rattle.c11_machine.specs.Effects.{ActsAs}
use Rattle.c11_machine.proofs.machine.Machine.read.Goals as goal

pub returns-in_default : goal.returns-in_default
unfolding ActsAs
returns-in_default c code = c.in_default.ensures _

pub returns : goal.returns
unfolding ActsAs
returns c code = c.in-Some.ensures _ ∙ c.reads.ensures
