use Rattle.c11_commands.specs.declared.due.Due.{Due}
use Rattle.c11_commands.specs.Answers.{IsDue}
use Rattle.c11_commands.specs.Jobs.{campaign_job, IsCampaignOf, IsSummaryText}
use Rattle.c11_commands.proofs.Judging.{good_as, accepted_due, refused_due}
use Rattle.c11_commands.proofs.campaigns.campaign_due.Goals as goal

pub returns-in-Ok-Accepted-clause-due : goal.returns-in-Ok-Accepted-clause-due
returns-in-Ok-Accepted-clause-due g c =
    let left = g.S.Source.left c.args.source.now in
    let now = g.S.Source.left c.read_program.new.source in
    let checked = c.in-Ok-Accepted.checked in
    good_as c.summed.result (λ (due : Due). IsSummaryText checked c.args.first c.args.count c.args.steps due.status due.text.items) (λ (due : Due). IsDue (campaign_job c.args.first c.args.count c.args.steps) left now due.status due.text.items)
    (λ due sums. accepted_due (IsCampaignOf c.args.first c.args.count c.args.steps) left now c.in-Ok-Accepted.field-0 checked c.in-Ok-Accepted.field-0-is c.in-Ok-Accepted.ensures.held due.status due.text.items
    (λ text p. record { checked = checked; accepted = p.accepted; is = p.is; sums = sums })) c.summed.ensures.due

pub returns-in-Ok-Refused-clause-due : goal.returns-in-Ok-Refused-clause-due
returns-in-Ok-Refused-clause-due g c =
    refused_due (IsCampaignOf c.args.first c.args.count c.args.steps) (g.S.Source.left c.args.source.now) (g.S.Source.left c.read_program.new.source) c.in-Ok-Refused.field-0 c.in-Ok-Refused.due c.in-Ok-Refused.field-0-is
    c.in-Ok-Refused.ensures.held
