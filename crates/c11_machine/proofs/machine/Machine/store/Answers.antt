use Rattle.c11_machine.specs.Effects.{ActsAs}
use Rattle.std.proofs.Common.{ap, sym, ◌∙◌}
use Rattle.c11_machine.proofs.Effects.{from_same}
use Rattle.c11_machine.specs.Views.{config_of}
use Rattle.c11_meaning.specs.Outcome.{operation, when_done}
use Rattle.c11_num.specs.Ranges.{TypedNumber}
use Rattle.c11_events.specs.declared.op.Op.TheVariants as op
use Rattle.c11_machine.proofs.machine.Machine.store.Goals as goal

pub returns-in_default : goal.returns-in_default
unfolding ActsAs
returns-in_default c code = c.in_default.ensures.value _

pub returns-in_default-found : goal.returns-in_default-found
unfolding ActsAs
returns-in_default-found c code = c.in-Some.ensures.value _ ∙ c.in_default-found.ensures _

pub returns : goal.returns
unfolding ActsAs
returns c code = c.in-Some.ensures.value _ ∙ (c.in-Some-found.ensures _
    ∙ (from_same _ _ _ (ap (λ (v : TypedNumber). operation c.args.line (op.AtomicStore c.in-Some-found.found.place c.args.order v) (config_of c.args.self.now).state (when_done v)) (sym c.convert-stored.ensures)) ∙ c.operates.ensures))
