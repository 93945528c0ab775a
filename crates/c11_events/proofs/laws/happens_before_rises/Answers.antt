use Rattle.c11_events.proofs.Rises.{hb_rises}
use Rattle.c11_events.proofs.laws.happens_before_rises.Goals as goal

pub returns : goal.returns
returns c = hb_rises
