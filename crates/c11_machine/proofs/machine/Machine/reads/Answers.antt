use Rattle.std.proofs.Common.{ap, ◌∙◌}
use Rattle.c11_num.specs.Ranges.{TypedNumber}
use Rattle.c11_flat.specs.declared.instr.Storage.{Storage}
use Rattle.c11_flat.specs.Flat.{from, read_at}
use Rattle.c11_machine.specs.Effects.{gives}
use Rattle.c11_machine.specs.Views.{config_of}
use Rattle.c11_machine.proofs.Effects.{from_same, seen}
use Rattle.c11_machine.proofs.machine.Machine.reads.Goals as goal

pub returns-in-Local : goal.returns-in-Local
unfolding from
returns-in-Local c = let m = config_of c.args.self.now in
    from_same _ _ _ (ap (λ (s : Storage). read_at s c.args.ctype c.args.line c.args.place m.state) c.in-Local.is)
    ∙ seen _ _ m (c.gives.ensures ∙ ap (λ (v : TypedNumber). gives c.args.takes v) c.local.ensures)
