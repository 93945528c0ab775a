use Rattle.c11_check.proofs.Lying.{faultless_lies_within}
use Rattle.c11_check.proofs.laws.faultless_lies_within.Goals as goal

pub returns : goal.returns
returns c = faultless_lies_within
