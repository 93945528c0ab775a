use Rattle.std.proofs.Common.{List, ap, sym, ◌+◌, ◌∙◌}
use Rattle.std.specs.Prelude.{ℤ}
use Rattle.c11_flat.specs.Flat.{To}
use Rattle.c11_machine.proofs.Takes.{cleared_is}
use Rattle.c11_machine.specs.Views.{config_of}
use Rattle.c11_meaning.specs.Outcome.{State}
use Rattle.c11_machine.proofs.machine.Machine.clear.Goals as goal

pub returns : goal.returns
returns c = ap (λ (st : State). To (record (config_of c.args.self.now) { place = c.args.self.now.place + 1; state = st })) (cleared_is c.args.place c.args.count (config_of c.args.self.now).state)
    ∙ ap (λ (zs : List ℤ). To (record (config_of c.args.self.now) { place = c.args.self.now.place + 1; state = record (config_of c.args.self.now).state { locals = zs } })) (sym c.clear_places.ensures)
