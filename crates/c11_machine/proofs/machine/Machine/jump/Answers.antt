use Rattle.c11_machine.specs.Effects.{ActsAs}
use Rattle.c11_machine.proofs.machine.Machine.jump.Goals as goal

pub returns : goal.returns
unfolding ActsAs
returns c code = c.jumps.ensures
