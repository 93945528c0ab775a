use Rattle.c11_io.proofs.Stops.{stops_before_the_last}
use Rattle.c11_io.proofs.laws.stops_before_the_last.Goals as goal

pub returns : goal.returns
returns c = stops_before_the_last
