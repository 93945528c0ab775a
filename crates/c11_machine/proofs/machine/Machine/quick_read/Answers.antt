use Rattle.std.proofs.Common.{◌∙◌}
use Rattle.c11_machine.specs.Views.{config_of}
use Rattle.c11_machine.proofs.InPlace.{did_same, reads_local}
use Rattle.c11_machine.proofs.machine.Machine.quick_read.Goals as goal

pub returns : goal.returns
returns c line code = did_same _ _ _ _ _ (c.in-Some.ensures _ ∙ reads_local line c.in-Some.found.below c.in-Some.found.place _ c.args.ctype _ (config_of c.args.self.now) c.in-Local.is c.local-value.ensures) c.quick_puts.ensures
