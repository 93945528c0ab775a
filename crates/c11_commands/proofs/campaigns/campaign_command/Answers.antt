use Rattle.std.proofs.Common.{List, ℕ, refl, subst}
use Rattle.c11_commands.specs.declared.due.DueStop.{DueStop}
use Rattle.c11_commands.specs.Answers.{HasDueCause, Writes}
use Rattle.c11_commands.specs.Jobs.{campaign_job}
use Rattle.c11_commands.proofs.Answering as answering
use Rattle.c11_commands.proofs.CampaignDue.{good_campaign}
use Rattle.c11_commands.proofs.campaigns.campaign_command.Goals as goal

pub returns-in-Ok-clause-answers : goal.returns-in-Ok-clause-answers
returns-in-Ok-clause-answers g c =
    let sink = c.args.sink.now in
    let sink' = c.write_due.new.sink in
    let wrote = subst (λ (bytes : List ℕ). Writes (g.K.Sink.taken sink) (g.K.Sink.taken sink') (g.K.Sink.faults sink) (g.K.Sink.faults sink') (g.K.Sink.empties sink) (g.K.Sink.empties sink') bytes c.in-Ok.due.status c.write_due.result)
    c.as_slice.ensures.value c.write_due.ensures in
    answering.printed (campaign_job c.args.first c.args.count c.args.steps) (good_campaign c.not_both.ensures c.args.first c.args.count c.args.steps) g.S.Source.left g.S.Source.faults g.K.Sink.taken g.K.Sink.faults g.K.Sink.empties
    c.args.source.now c.campaign_due.new.source sink sink' c.in-Ok.due.status c.in-Ok.due.text.items c.in-Ok.ensures.due c.in-Ok.ensures.kept (λ idle. cc) (λ idle. cc) c.write_due.result wrote

pub returns-in-Ok-clause-headline : goal.returns-in-Ok-clause-headline
returns-in-Ok-clause-headline g c = (returns-in-Ok-clause-answers g c).headline

pub returns-in-Err-Fault-clause-answers : goal.returns-in-Err-Fault-clause-answers
returns-in-Err-Fault-clause-answers g c =
    let cause = subst (λ (s : DueStop). HasDueCause (g.S.Source.faults c.args.source.now) (g.S.Source.faults c.campaign_due.new.source) s) c.in-Err-Fault.field-0-is c.in-Err-Fault.ensures.stop in
    answering.unreadable (campaign_job c.args.first c.args.count c.args.steps) (good_campaign c.not_both.ensures c.args.first c.args.count c.args.steps) g.S.Source.left g.S.Source.faults g.K.Sink.taken g.K.Sink.faults g.K.Sink.empties
    c.args.source.now c.campaign_due.new.source c.args.sink.now c.args.sink.now refl cause refl

pub returns-in-Err-NoMemory-clause-answers : goal.returns-in-Err-NoMemory-clause-answers
returns-in-Err-NoMemory-clause-answers g c =
    let cause = subst (λ (s : DueStop). HasDueCause (g.S.Source.faults c.args.source.now) (g.S.Source.faults c.campaign_due.new.source) s) c.in-Err-NoMemory.field-0-is c.in-Err-NoMemory.ensures.stop in
    answering.wanting (campaign_job c.args.first c.args.count c.args.steps) (good_campaign c.not_both.ensures c.args.first c.args.count c.args.steps) g.S.Source.left g.S.Source.faults g.K.Sink.taken g.K.Sink.faults g.K.Sink.empties
    c.args.source.now c.campaign_due.new.source c.args.sink.now c.args.sink.now refl cause (λ idle. cc) refl
