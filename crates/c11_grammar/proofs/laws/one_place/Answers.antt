use Rattle.c11_grammar.proofs.Runs.{one_place}
use Rattle.c11_grammar.proofs.laws.one_place.Goals as goal

pub returns : goal.returns
returns c = one_place
