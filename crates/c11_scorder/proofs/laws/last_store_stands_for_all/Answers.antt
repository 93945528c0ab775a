use Rattle.c11_scorder.proofs.Deciding.{last_store_stands_for_all}
use Rattle.c11_scorder.proofs.laws.last_store_stands_for_all.Goals as goal

pub returns : goal.returns
returns c = last_store_stands_for_all
