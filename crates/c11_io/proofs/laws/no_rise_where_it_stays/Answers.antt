use Rattle.c11_io.proofs.Stops.{no_rise}
use Rattle.c11_io.proofs.laws.no_rise_where_it_stays.Goals as goal

pub returns : goal.returns
returns c = no_rise
