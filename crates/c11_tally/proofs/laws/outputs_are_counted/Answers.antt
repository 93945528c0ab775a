use Rattle.c11_tally.proofs.Counted.{outputs_are_counted}
use Rattle.c11_tally.proofs.laws.outputs_are_counted.Goals as goal

pub returns : goal.returns
returns c = outputs_are_counted
