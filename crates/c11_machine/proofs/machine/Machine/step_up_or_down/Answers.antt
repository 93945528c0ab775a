use Rattle.c11_machine.specs.Effects.{ActsAs}
use Rattle.std.proofs.Common.{Result, ap, sym, ◌∙◌}
use Rattle.c11_machine.proofs.Effects.{from_same}
use Rattle.c11_machine.specs.Views.{config_of}
use Rattle.c11_meaning.specs.Objects.{step_op}
use Rattle.c11_meaning.specs.Outcome.{computed}
use Rattle.c11_num.specs.Operators.{binary_of}
use Rattle.c11_num.specs.Ranges.{TypedNumber}
use Rattle.c11_num.specs.declared.fault.NumFault.{NumFault}
use Rattle.c11_num.specs.declared.kind.BinaryOp.{BinaryOp}
use Rattle.c11_machine.proofs.machine.Machine.step_up_or_down.Goals as goal

pub returns-in_default : goal.returns-in_default
unfolding ActsAs
returns-in_default c code = c.in_default.ensures.value _

pub returns : goal.returns
unfolding ActsAs
returns c code = c.in-Some.ensures.value _ ∙ (from_same _ _ _ (ap (λ (v : Result TypedNumber NumFault). computed c.args.line v (config_of c.args.self.now).state)
    (sym (c.binary.ensures ∙ (ap (λ (o : BinaryOp). binary_of o c.in-Some.value c.one.result) c.step_op.ensures ∙ ap (λ (v : TypedNumber). binary_of (step_op c.args.up) c.in-Some.value v) c.one.ensures))))
    ∙ c.computes.ensures)
