use Rattle.std.proofs.Common.{sym, ◌∙◌}
use Rattle.c11_machine.proofs.Effects.{test_false}
use Rattle.c11_machine.proofs.InPlace.{did_same}
use Rattle.c11_machine.proofs.machine.Machine.quick_turn_if.Goals as goal

pub returns-else-is_zero : goal.returns-else-is_zero
returns-else-is_zero c line code = did_same _ _ _ _ _ (c.in-Some.ensures.value _ ∙ test_false _ _ _ (sym c.is_zero.ensures ∙ c.if-is_zero.false)) (c.quick_turn.ensures line)
