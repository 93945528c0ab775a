use Rattle.c11_scorder.proofs.Deciding.{last_store_decides}
use Rattle.c11_scorder.proofs.laws.last_store_decides.Goals as goal

pub returns : goal.returns
returns c = last_store_decides
