use Rattle.c11_io.proofs.Stops.{one_stays}
use Rattle.c11_io.proofs.laws.one_count_stays.Goals as goal

pub returns : goal.returns
returns c = one_stays
