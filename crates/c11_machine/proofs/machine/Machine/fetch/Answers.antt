use Rattle.std.proofs.Common.{◌∙◌}
use Rattle.c11_machine.specs.Effects.{ActsAs}
use Rattle.c11_machine.proofs.Stacks.{place_stays}
use Rattle.c11_machine.proofs.machine.Machine.fetch.Goals as goal

pub returns-in_default : goal.returns-in_default
unfolding ActsAs
returns-in_default c code = place_stays c.args.place _ _ ∙ c.in_default.ensures _

pub returns : goal.returns
unfolding ActsAs
returns c code = place_stays c.args.place _ _ ∙ (c.in-Some.ensures _ ∙ c.reads.ensures)
