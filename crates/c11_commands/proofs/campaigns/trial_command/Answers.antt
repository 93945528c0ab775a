use Rattle.std.proofs.Common.{List, ℕ, None, refl, subst}
use Rattle.c11_commands.specs.Answers.{Writes, alone}
use Rattle.c11_commands.specs.Jobs.{trial_job}
use Rattle.c11_commands.proofs.Answering.{printed, wanting}
use Rattle.c11_commands.proofs.CampaignDue.{good_trial}
use Rattle.c11_commands.proofs.campaigns.trial_command.Goals as goal

pub returns-in-Ok : goal.returns-in-Ok
returns-in-Ok g c =
    let sink = c.args.sink.now in
    let sink' = c.write_due.new.sink in
    let wrote = subst (λ (bytes : List ℕ). Writes (g.K.Sink.taken sink) (g.K.Sink.taken sink') (g.K.Sink.faults sink) (g.K.Sink.faults sink') (g.K.Sink.empties sink) (g.K.Sink.empties sink') bytes c.in-Ok.due.status c.write_due.result)
    c.as_slice.ensures.value c.write_due.ensures in
    printed (trial_job c.args.number c.args.size c.args.first c.args.count c.args.steps) (good_trial c.args.number c.args.size c.args.first c.args.count c.args.steps) {S = Unit {0}} (λ nothing. None) (λ nothing. 0)
    g.K.Sink.taken g.K.Sink.faults g.K.Sink.empties tt tt sink sink' c.in-Ok.due.status c.in-Ok.due.text.items (alone refl c.in-Ok.ensures) refl (λ no. refl) (λ no text refusal is. is) c.write_due.result wrote

pub returns-in-Err : goal.returns-in-Err
returns-in-Err g c =
    wanting (trial_job c.args.number c.args.size c.args.first c.args.count c.args.steps) (good_trial c.args.number c.args.size c.args.first c.args.count c.args.steps) {S = Unit {0}} (λ nothing. None) (λ nothing. 0)
    g.K.Sink.taken g.K.Sink.faults g.K.Sink.empties tt tt c.args.sink.now c.args.sink.now refl refl (λ no. refl) refl
