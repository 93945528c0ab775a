use Rattle.c11_flat.proofs.Calls.{flat_asks_as_trees}
use Rattle.c11_flat.proofs.laws.flat_asks_as_trees.Goals as goal

pub returns : goal.returns
returns c = flat_asks_as_trees
