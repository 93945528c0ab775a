use Rattle.c11_events.proofs.Agreement.{offers_agree}
use Rattle.c11_events.proofs.laws.offers_agree.Goals as goal

pub returns : goal.returns
returns c = offers_agree
