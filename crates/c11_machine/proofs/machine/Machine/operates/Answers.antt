use Rattle.std.proofs.Common.{ap, sym, ◌∙◌}
use Rattle.c11_machine.specs.Effects.{meant}
use Rattle.c11_machine.specs.Views.{config_of, listed}
use Rattle.c11_machine.specs.declared.effect.Effect.{Effect}
use Rattle.c11_machine.proofs.Effects.{operation_asks, replies}
use Rattle.c11_machine.proofs.machine.Machine.operates.Goals as goal

pub returns-in-None : goal.returns-in-None
returns-in-None c = let m = config_of c.args.self.now in operation_asks c.args.line c.args.op m.state _ _ (ap listed c.in-None.is)

pub returns-in-Some : goal.returns-in-Some
returns-in-Some c = let m = config_of c.args.self.now in
    replies c.args.line c.args.op c.args.wanted c.args.takes m c.in-Some.reply c.answer_to.result (ap listed c.in-Some.is) c.answer_to.ensures
    ∙ ap (λ (e : Effect). meant e m) (sym c.replied.ensures)
