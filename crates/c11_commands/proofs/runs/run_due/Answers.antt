use Rattle.c11_commands.specs.declared.due.Due.{Due}
use Rattle.c11_commands.specs.Answers.{IsDue}
use Rattle.c11_commands.specs.Jobs.{run_job, IsRunOf, IsRunText}
use Rattle.c11_commands.proofs.Judging.{good_as, accepted_due, refused_due}
use Rattle.c11_commands.proofs.runs.run_due.Goals as goal

pub returns-in-Ok-Accepted-clause-due : goal.returns-in-Ok-Accepted-clause-due
returns-in-Ok-Accepted-clause-due g c =
    let left = g.S.Source.left c.args.source.now in
    let now = g.S.Source.left c.read_program.new.source in
    let checked = c.in-Ok-Accepted.checked in
    good_as c.printed_run.result (λ (due : Due). IsRunText checked c.args.seed c.args.steps due.status due.text.items) (λ (due : Due). IsDue (run_job c.args.seed c.args.steps) left now due.status due.text.items)
    (λ due run. accepted_due (IsRunOf c.args.seed c.args.steps) left now c.in-Ok-Accepted.field-0 checked c.in-Ok-Accepted.field-0-is c.in-Ok-Accepted.ensures.held due.status due.text.items
    (λ text p. record { checked = checked; accepted = p.accepted; is = p.is; run = run })) c.printed_run.ensures.due

pub returns-in-Ok-Refused-clause-due : goal.returns-in-Ok-Refused-clause-due
returns-in-Ok-Refused-clause-due g c =
    refused_due (IsRunOf c.args.seed c.args.steps) (g.S.Source.left c.args.source.now) (g.S.Source.left c.read_program.new.source) c.in-Ok-Refused.field-0 c.in-Ok-Refused.due c.in-Ok-Refused.field-0-is
    c.in-Ok-Refused.ensures.held
