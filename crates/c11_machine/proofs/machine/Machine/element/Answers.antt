use Rattle.std.proofs.Common.{refl, ◌∙◌}
use Rattle.c11_flat.specs.Flat.{from}
use Rattle.c11_machine.specs.Effects.{ActsAs}
use Rattle.c11_machine.specs.Views.{config_of}
use Rattle.c11_machine.proofs.Effects.{stops, from_same, seen}
use Rattle.c11_machine.proofs.machine.Machine.element.Goals as goal

pub returns-in_default : goal.returns-in_default
unfolding ActsAs
returns-in_default c code = c.in_default.ensures.value _

pub returns-in-Some-element_of : goal.returns-in-Some-element_of
unfolding ActsAs from
returns-in-Some-element_of c code = let m = config_of c.args.self.now in
    c.in-Some.ensures.value _ ∙ (from_same _ _ _ (c.in-Some-element_of.ensures c.args.line m.state) ∙ seen _ _ m c.puts.ensures)

pub returns-in-None : goal.returns-in-None
unfolding ActsAs
returns-in-None c code = let m = config_of c.args.self.now in
    c.in-Some.ensures.value _ ∙ (from_same _ _ _ (c.in-None.ensures c.args.line m.state)
    ∙ (stops c.args.line _ m c.args.self.now.pending _ refl ∙ seen _ _ m c.stops.ensures))
