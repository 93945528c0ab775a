use Rattle.c11_events.proofs.Sufficient.{consistent}
use Rattle.c11_events.proofs.laws.chain_lawful_is_consistent.Goals as goal

pub returns : goal.returns
returns c = consistent
