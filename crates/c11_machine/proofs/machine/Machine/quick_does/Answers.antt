use Rattle.c11_machine.proofs.InPlace.{did_as}
use Rattle.c11_machine.proofs.machine.Machine.quick_does.Goals as goal

pub returns-in-Push : goal.returns-in-Push
returns-in-Push c = did_as _ _ _ _ _ c.in-Push.is c.quick_push.ensures

pub returns-in-Drop : goal.returns-in-Drop
returns-in-Drop c = did_as _ _ _ _ _ c.in-Drop.is c.quick_drop.ensures

pub returns-in-Read : goal.returns-in-Read
returns-in-Read c = did_as _ _ _ _ _ c.in-Read.is (c.quick_read.ensures c.in-Read.line)

pub returns-in-Fetch : goal.returns-in-Fetch
returns-in-Fetch c = did_as _ _ _ _ _ c.in-Fetch.is (c.quick_fetch.ensures c.in-Fetch.line)

pub returns-in-Write : goal.returns-in-Write
returns-in-Write c = did_as _ _ _ _ _ c.in-Write.is (c.quick_write.ensures c.in-Write.line)

pub returns-in-Compute : goal.returns-in-Compute
returns-in-Compute c = did_as _ _ _ _ _ c.in-Compute.is (c.quick_compute.ensures c.in-Compute.line)

pub returns-in-Step : goal.returns-in-Step
returns-in-Step c = did_as _ _ _ _ _ c.in-Step.is (c.quick_step.ensures c.in-Step.line)

pub returns-in-Stepped : goal.returns-in-Stepped
returns-in-Stepped c = did_as _ _ _ _ _ c.in-Stepped.is (c.quick_stepped.ensures c.in-Stepped.line)

pub returns-in-JumpIfZero : goal.returns-in-JumpIfZero
returns-in-JumpIfZero c = did_as _ _ _ _ _ c.in-JumpIfZero.is c.quick_jump_if_zero.ensures

pub returns-in-Turn : goal.returns-in-Turn
returns-in-Turn c = did_as _ _ _ _ _ c.in-Turn.is (λ code. c.quick_turn.ensures c.in-Turn.line)

pub returns-in-TurnIf : goal.returns-in-TurnIf
returns-in-TurnIf c = did_as _ _ _ _ _ c.in-TurnIf.is (c.quick_turn_if.ensures c.in-TurnIf.line)
