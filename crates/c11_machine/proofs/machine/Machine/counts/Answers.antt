use Rattle.std.proofs.Common.{arith, refl, ◌∙◌}
use Rattle.c11_machine.proofs.Effects.{counts_none, seen}
use Rattle.c11_machine.specs.Views.{config_of}
use Rattle.c11_machine.proofs.machine.Machine.counts.Goals as goal

pub returns-then-self-eq0 : goal.returns-then-self-eq0
returns-then-self-eq0 c = counts_none c.args.self.now.turns c.args.line (config_of c.args.self.now) c.args.self.now.pending _ refl (omega arith) ∙ seen _ _ (config_of c.args.self.now) c.stops.ensures
