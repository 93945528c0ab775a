use Rattle.c11_machine.specs.Effects.{ActsAs}
use Rattle.std.proofs.Common.{◌∙◌}
use Rattle.c11_machine.proofs.Effects.{gives_seen}
use Rattle.c11_machine.specs.Views.{config_of}
use Rattle.c11_machine.proofs.machine.Machine.cast.Goals as goal

pub returns-in_default : goal.returns-in_default
unfolding ActsAs
returns-in_default c code = c.in_default.ensures.value _

pub returns : goal.returns
unfolding ActsAs
returns c code = c.in-Some.ensures.value _ ∙ gives_seen 1 _ _ _ (config_of c.args.self.now) c.cast_to.ensures c.gives.ensures
