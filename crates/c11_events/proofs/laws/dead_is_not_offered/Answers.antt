use Rattle.c11_events.proofs.Deaths.{dead_not_offered}
use Rattle.c11_events.proofs.laws.dead_is_not_offered.Goals as goal

pub returns : goal.returns
returns c = dead_not_offered
