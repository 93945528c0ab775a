use Rattle.std.proofs.Common.{ap, ◌∙◌}
use Rattle.c11_num.specs.Operators.{binary_of}
use Rattle.c11_num.specs.Ranges.{TypedNumber}
use Rattle.c11_num.specs.declared.kind.BinaryOp.{BinaryOp}
use Rattle.c11_meaning.specs.Objects.{step_op}
use Rattle.c11_machine.specs.Views.{config_of}
use Rattle.c11_machine.proofs.InPlace.{computes_to, did_same}
use Rattle.c11_machine.proofs.machine.Machine.quick_step.Goals as goal

pub returns-in-Ok : goal.returns-in-Ok
returns-in-Ok c line code = did_same _ _ _ _ _ (c.in-Some.ensures.value _ ∙ computes_to line 0 c.in-Ok.value _ _ (config_of c.args.self.now)
    (c.binary.ensures ∙ (ap (λ (o : BinaryOp). binary_of o c.in-Some.value c.one.result) c.step_op.ensures ∙ ap (λ (v : TypedNumber). binary_of (step_op c.args.up) c.in-Some.value v) c.one.ensures))
    c.in-Ok.is) c.quick_puts.ensures
