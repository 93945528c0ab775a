use Rattle.std.proofs.Common.{Some, refl, sym, subst}
use Rattle.c11_commands.specs.declared.words.Command.{Command}
use Rattle.c11_commands.specs.Answers.{Answers}
use Rattle.c11_commands.specs.Jobs.{trial_job, job_of}
use Rattle.c11_commands.proofs.Answering.{beside}
use Rattle.c11_commands.proofs.top.execute.Goals as goal

pub returns-in-Trial : goal.returns-in-Trial
returns-in-Trial g c =
    subst (λ (command : Command). Answers g.S.Source.left g.S.Source.faults g.K.Sink.taken g.K.Sink.faults g.K.Sink.empties (job_of (Some command)) c.args.source.now c.args.source.now c.args.sink.now c.trial_command.new.sink c.trial_command.result)
    (sym c.in-Trial.is)
    (beside g.S.Source.left g.S.Source.faults g.K.Sink.taken g.K.Sink.faults g.K.Sink.empties (trial_job c.in-Trial.number c.in-Trial.size c.in-Trial.first c.in-Trial.count c.in-Trial.steps) refl
    (λ text refusal is. is) c.args.source.now c.args.sink.now c.trial_command.new.sink c.trial_command.result c.trial_command.ensures)
