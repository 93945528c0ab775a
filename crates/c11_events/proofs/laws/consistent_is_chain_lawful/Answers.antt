use Rattle.c11_events.proofs.Necessary.{chain_lawful}
use Rattle.c11_events.proofs.laws.consistent_is_chain_lawful.Goals as goal

pub returns : goal.returns
returns c = chain_lawful
