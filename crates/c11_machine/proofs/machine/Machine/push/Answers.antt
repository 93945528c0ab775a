use Rattle.c11_machine.specs.Effects.{ActsAs}
use Rattle.std.proofs.Common.{refl}
use Rattle.c11_machine.proofs.Effects.{gives_seen}
use Rattle.c11_machine.specs.Views.{config_of}
use Rattle.c11_machine.proofs.machine.Machine.push.Goals as goal

pub returns : goal.returns
unfolding ActsAs
returns c code = gives_seen 0 _ _ _ (config_of c.args.self.now) refl c.gives.ensures
