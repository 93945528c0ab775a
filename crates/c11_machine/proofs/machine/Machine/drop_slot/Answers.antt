use Rattle.c11_machine.specs.Effects.{ActsAs}
use Rattle.std.proofs.Common.{◌∙◌}
use Rattle.c11_machine.proofs.Effects.{no_slot, seen, slot_found}
use Rattle.c11_machine.specs.Views.{config_of}
use Rattle.c11_machine.proofs.machine.Machine.drop_slot.Goals as goal

pub returns-in_default : goal.returns-in_default
unfolding ActsAs
returns-in_default c code = no_slot _ _ c.in_default.ensures.slot

pub returns : goal.returns
unfolding ActsAs
returns c code = slot_found _ _ _ _ c.in-Some.ensures.slot ∙ seen _ _ (config_of c.args.self.now) c.goes.ensures
