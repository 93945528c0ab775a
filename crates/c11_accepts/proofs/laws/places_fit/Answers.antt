use Rattle.c11_accepts.proofs.Judging.{places_fit}
use Rattle.c11_accepts.proofs.laws.places_fit.Goals as goal

pub returns : goal.returns
returns c = places_fit
