use Rattle.std.proofs.Common.{Option, ap}
use Rattle.c11_flat.specs.Flat.{act_at}
use Rattle.c11_flat.specs.declared.instr.Instr.{Instr}
use Rattle.c11_machine.specs.Views.{config_of}
use Rattle.c11_machine.proofs.InPlace.{did_same}
use Rattle.c11_machine.proofs.machine.Machine.quick.Goals as goal

pub returns-in-Some : goal.returns-in-Some
returns-in-Some c = did_same _ _ _ _ _ (ap (λ (x : Option Instr). act_at c.args.code.now x (config_of c.args.self.now)) c.in-Some.ensures.instr) (c.quick_does.ensures c.args.code.now)
