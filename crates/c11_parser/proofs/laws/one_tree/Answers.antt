use Rattle.c11_parser.proofs.Sources.{one_tree}
use Rattle.c11_parser.proofs.laws.one_tree.Goals as goal

pub returns : goal.returns
returns c = one_tree
