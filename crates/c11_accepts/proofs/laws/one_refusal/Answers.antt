use Rattle.c11_accepts.proofs.Judging.{one_refusal}
use Rattle.c11_accepts.proofs.laws.one_refusal.Goals as goal

pub returns : goal.returns
returns c = one_refusal c.one_scan.ensures
