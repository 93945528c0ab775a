use Rattle.std.proofs.Common.{ap, sym, ◌∙◌, Result}
use Rattle.c11_num.specs.Ranges.{TypedNumber}
use Rattle.c11_num.specs.declared.fault.NumFault.{NumFault}
use Rattle.c11_meaning.specs.Outcome.{computed}
use Rattle.c11_machine.specs.Effects.{ActsAs}
use Rattle.c11_machine.specs.Views.{config_of}
use Rattle.c11_machine.proofs.Effects.{from_same}
use Rattle.c11_machine.proofs.machine.Machine.compute.Goals as goal

pub returns-in_default : goal.returns-in_default
unfolding ActsAs
returns-in_default c code = c.in_default.ensures.value _

pub returns-in_default-value_at : goal.returns-in_default-value_at
unfolding ActsAs
returns-in_default-value_at c code = c.in-Some.ensures.value _ ∙ c.in_default-value_at.ensures.value _

pub returns : goal.returns
unfolding ActsAs
returns c code = c.in-Some.ensures.value _ ∙ (c.in-Some-value_at.ensures.value _
    ∙ (from_same _ _ _ (ap (λ (v : Result TypedNumber NumFault). computed c.args.line v (config_of c.args.self.now).state) (sym c.binary.ensures)) ∙ c.computes.ensures))
