use Rattle.c11_machine.proofs.InPlace.{took_later, took_quick}
use Rattle.c11_machine.proofs.machine.Machine.step.Goals as goal

pub returns-then-quick : goal.returns-then-quick
returns-then-quick c = took_quick _ _ _ _ c.if-quick.true c.quick.ensures

pub returns-else-quick : goal.returns-else-quick
returns-else-quick c = took_later c.args.code.now _ _ _ _ _ c.if-quick.false c.quick.ensures c.step_by_effect.ensures
