use Rattle.c11_accepts.proofs.Judging.{one_of_both}
use Rattle.c11_accepts.proofs.laws.one_of_both.Goals as goal

pub returns : goal.returns
returns c = one_of_both c.some_scan.ensures
