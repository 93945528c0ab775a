use Rattle.std.proofs.Common.{◌∙◌}
use Rattle.c11_machine.specs.Views.{config_of}
use Rattle.c11_machine.proofs.InPlace.{computes_to, did_same}
use Rattle.c11_machine.proofs.machine.Machine.quick_compute.Goals as goal

pub returns-in-Ok : goal.returns-in-Ok
returns-in-Ok c line code = did_same _ _ _ _ _ (c.in-Some.ensures.value _ ∙ (c.in-Some-value_at.ensures.value _
    ∙ computes_to line 2 c.in-Ok.value _ _ (config_of c.args.self.now) c.binary.ensures c.in-Ok.is)) c.quick_puts.ensures
