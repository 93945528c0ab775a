use Rattle.c11_tally.proofs.Tallying.{tallies_have_leasts}
use Rattle.c11_tally.proofs.laws.tallies_have_leasts.Goals as goal

pub returns : goal.returns
returns c = tallies_have_leasts
