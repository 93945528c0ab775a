use Rattle.c11_events.proofs.Agreement.{last_offered, some_offered}
use Rattle.c11_events.proofs.laws.last_is_offered.Goals as goal

pub returns-clause-last : goal.returns-clause-last
returns-clause-last c = last_offered

pub returns-clause-some : goal.returns-clause-some
returns-clause-some c = some_offered
