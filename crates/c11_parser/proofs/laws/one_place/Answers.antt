use Rattle.c11_parser.proofs.Sources.{one_place}
use Rattle.c11_parser.proofs.laws.one_place.Goals as goal

pub returns : goal.returns
returns c = one_place
