use Rattle.std.proofs.Common.{ap, sym, ℕ, ◌∙◌}
use Rattle.c11_machine.proofs.Effects.{from_same}
use Rattle.c11_machine.specs.Views.{config_of}
use Rattle.c11_meaning.specs.Library.{joined}
use Rattle.c11_meaning.specs.Outcome.{operation}
use Rattle.c11_events.specs.declared.op.Op.TheVariants as op
use Rattle.c11_machine.proofs.machine.Machine.joins.Goals as goal

pub returns : goal.returns
returns c = c.in-Some.ensures.value _ ∙ (from_same _ _ _ (ap (λ (n : ℕ). operation c.args.line (op.Join n) (config_of c.args.self.now).state (joined c.args.place)) (sym c.thread_number.ensures)) ∙ c.operates.ensures)
