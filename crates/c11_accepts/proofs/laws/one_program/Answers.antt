use Rattle.c11_accepts.proofs.Judging.{one_program}
use Rattle.c11_accepts.proofs.laws.one_program.Goals as goal

pub returns : goal.returns
returns c = one_program c.one_scan.ensures
