use Rattle.c11_tally.proofs.Printed.{kept_is_one}
use Rattle.c11_tally.proofs.laws.kept_is_one.Goals as goal

pub returns : goal.returns
returns c = kept_is_one
