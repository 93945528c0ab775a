use Rattle.c11_events.proofs.Adding.{event_adds}
use Rattle.c11_events.proofs.laws.event_adds.Goals as goal

pub returns : goal.returns
returns c = event_adds
