use Rattle.c11_tally.proofs.Tallying.{tallies_join}
use Rattle.c11_tally.proofs.laws.tallies_join.Goals as goal

pub returns : goal.returns
returns c = tallies_join
