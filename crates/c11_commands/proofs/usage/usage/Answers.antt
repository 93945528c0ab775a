use Rattle.std.proofs.Common.{None, refl}
use Rattle.c11_commands.specs.Answers.{alone}
use Rattle.c11_commands.specs.Jobs.{usage_job}
use Rattle.c11_commands.proofs.Answering.{printed, good_usage}
use Rattle.c11_commands.proofs.usage.usage.Goals as goal

pub returns : goal.returns
returns g c = printed (usage_job c.args.status) (good_usage c.args.status c.requires) {S = Unit {0}} (λ nothing. None) (λ nothing. 0) g.K.Sink.taken g.K.Sink.faults g.K.Sink.empties
    tt tt c.args.sink.now c.write_due.new.sink c.args.status _ (alone refl (refl, c.as_bytes.ensures.value)) refl (λ no. refl) (λ no text refusal is. is) c.write_due.result c.write_due.ensures
