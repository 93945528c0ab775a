use Rattle.c11_machine.specs.Effects.{ActsAs}
use Rattle.std.proofs.Common.{ap, ◌∙◌}
use Rattle.c11_flat.specs.Flat.{act}
use Rattle.c11_flat.specs.declared.instr.Instr.{Instr}
use Rattle.c11_machine.proofs.Takes.{took_same}
use Rattle.c11_machine.specs.Views.{config_of}
use Rattle.c11_machine.proofs.machine.Machine.does.Goals as goal

pub returns-in_ok-effect-in-Print : goal.returns-in_ok-effect-in-Print
unfolding ActsAs
returns-in_ok-effect-in-Print c = took_same _ _ _ _ _ (ap (λ (x : Instr). act c.args.code.now x (config_of c.args.self.now)) c.in-Print.is ∙ c.in_ok-effect-in-Print.ensures c.args.code.now) c.perform.ensures
