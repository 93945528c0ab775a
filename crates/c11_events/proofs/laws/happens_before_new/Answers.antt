use Rattle.c11_events.proofs.Newest.{happens_before_new}
use Rattle.c11_events.proofs.laws.happens_before_new.Goals as goal

pub returns : goal.returns
returns c = happens_before_new
