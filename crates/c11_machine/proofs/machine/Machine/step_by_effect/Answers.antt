use Rattle.c11_machine.specs.Effects.{ActsAs}
use Rattle.std.proofs.Common.{Option, ap, ◌∙◌}
use Rattle.c11_flat.specs.Flat.{act_at}
use Rattle.c11_flat.specs.declared.instr.Instr.{Instr}
use Rattle.c11_machine.proofs.Takes.{took_same}
use Rattle.c11_machine.specs.Views.{config_of}
use Rattle.c11_machine.proofs.machine.Machine.step_by_effect.Goals as goal

pub returns-in-Some-effect : goal.returns-in-Some-effect
unfolding ActsAs
returns-in-Some-effect c = took_same _ _ _ _ _ (ap (λ (x : Option Instr). act_at c.args.code.now x (config_of c.args.self.now)) c.in-Some.ensures.instr ∙ c.in-Some-effect.ensures c.args.code.now) c.perform.ensures
