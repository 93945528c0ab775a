use Rattle.c11_events.proofs.Valued.{value_by_read}
use Rattle.c11_events.proofs.laws.value_by_read.Goals as goal

pub returns : goal.returns
returns c = value_by_read
