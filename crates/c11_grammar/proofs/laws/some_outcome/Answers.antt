use Rattle.c11_grammar.proofs.Runs.{some_outcome}
use Rattle.c11_grammar.proofs.laws.some_outcome.Goals as goal

pub returns : goal.returns
returns c = some_outcome
