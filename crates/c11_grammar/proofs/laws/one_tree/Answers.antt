use Rattle.c11_grammar.proofs.Runs.{one_tree}
use Rattle.c11_grammar.proofs.laws.one_tree.Goals as goal

pub returns : goal.returns
returns c = one_tree
