use Rattle.c11_machine.specs.Effects.{ActsAs}
use Rattle.std.proofs.Common.{sym, ◌∙◌}
use Rattle.c11_machine.proofs.Effects.{seen, test_false, test_true}
use Rattle.c11_machine.specs.Views.{config_of}
use Rattle.c11_machine.proofs.machine.Machine.turn_if.Goals as goal

pub returns-in_default : goal.returns-in_default
unfolding ActsAs
returns-in_default c code = c.in_default.ensures.value _

pub returns-then-is_zero : goal.returns-then-is_zero
unfolding ActsAs
returns-then-is_zero c code = c.in-Some.ensures.value _ ∙ (test_true _ _ _ (sym c.is_zero.ensures ∙ c.if-is_zero.true) ∙ seen _ _ (config_of c.args.self.now) c.goes.ensures)

pub returns-else-is_zero : goal.returns-else-is_zero
unfolding ActsAs
returns-else-is_zero c code = c.in-Some.ensures.value _ ∙ (test_false _ _ _ (sym c.is_zero.ensures ∙ c.if-is_zero.false) ∙ c.counts.ensures)
