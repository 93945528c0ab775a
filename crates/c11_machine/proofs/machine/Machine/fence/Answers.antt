use Rattle.c11_machine.specs.Effects.{ActsAs}
use Rattle.std.proofs.Common.{ap, sym, ◌∙◌}
use Rattle.c11_machine.proofs.Effects.{from_same}
use Rattle.c11_machine.specs.Views.{config_of}
use Rattle.c11_meaning.specs.Outcome.{operation, when_done}
use Rattle.c11_num.specs.Ranges.{TypedNumber}
use Rattle.c11_events.specs.declared.op.Op.TheVariants as op
use Rattle.c11_machine.proofs.machine.Machine.fence.Goals as goal

pub returns : goal.returns
unfolding ActsAs
returns c code = from_same _ _ _ (ap (λ (v : TypedNumber). operation c.args.line (op.Fence c.args.order) (config_of c.args.self.now).state (when_done v)) (sym c.nothing.ensures)) ∙ c.operates.ensures
