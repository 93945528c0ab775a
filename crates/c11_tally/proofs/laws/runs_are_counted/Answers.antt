use Rattle.c11_tally.proofs.Tallying.{runs_are_counted}
use Rattle.c11_tally.proofs.laws.runs_are_counted.Goals as goal

pub returns : goal.returns
returns c = runs_are_counted
