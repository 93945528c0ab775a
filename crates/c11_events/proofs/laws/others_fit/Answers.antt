use Rattle.c11_events.proofs.Others.{others_fit}
use Rattle.c11_events.proofs.laws.others_fit.Goals as goal

pub returns : goal.returns
returns c = others_fit
