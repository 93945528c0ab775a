use Rattle.c11_events.proofs.Prefixes.{prefix_consistent}
use Rattle.c11_events.proofs.laws.prefix_is_consistent.Goals as goal

pub returns : goal.returns
returns c = prefix_consistent
