use Rattle.c11_accepts.proofs.Judging.{not_both}
use Rattle.c11_accepts.proofs.laws.not_both.Goals as goal

pub returns : goal.returns
returns c = not_both c.one_scan.ensures
