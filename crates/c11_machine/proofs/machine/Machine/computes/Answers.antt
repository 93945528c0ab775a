use Rattle.std.proofs.Common.{ap, refl, ◌∙◌, Result}
use Rattle.c11_num.specs.Ranges.{TypedNumber}
use Rattle.c11_num.specs.declared.fault.NumFault.{NumFault}
use Rattle.c11_events.specs.declared.op.StopKind.{StopKind}
use Rattle.c11_meaning.specs.Outcome.{computed}
use Rattle.c11_machine.specs.Effects.{stopped}
use Rattle.c11_machine.specs.Views.{config_of}
use Rattle.c11_machine.proofs.Effects.{computes, gives_value, from_same, seen}
use Rattle.c11_machine.proofs.machine.Machine.computes.Goals as goal

pub returns-in-Ok : goal.returns-in-Ok
returns-in-Ok c = let m = config_of c.args.self.now in
    from_same _ _ _ (ap (λ (v : Result TypedNumber NumFault). computed c.args.line v m.state) c.in-Ok.is)
    ∙ (gives_value c.args.line c.args.takes c.in-Ok.value m ∙ seen _ _ m c.gives.ensures)

pub returns-in-Err : goal.returns-in-Err
returns-in-Err c = let m = config_of c.args.self.now in
    from_same _ _ _ (ap (λ (v : Result TypedNumber NumFault). computed c.args.line v m.state) c.in-Err.is)
    ∙ (computes c.args.line c.in-Err.fault m c.args.self.now.pending _ refl
    ∙ seen _ _ m (c.stops.ensures ∙ ap (λ (k : StopKind). stopped c.args.line k c.args.self.now.pending) c.stop_kind.ensures))
