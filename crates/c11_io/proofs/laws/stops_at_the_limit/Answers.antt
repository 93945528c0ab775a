use Rattle.c11_io.proofs.Stops.{fault_takes, no_memory_takes, too_long_takes}
use Rattle.c11_io.proofs.laws.stops_at_the_limit.Goals as goal

pub returns-clause-fault : goal.returns-clause-fault
returns-clause-fault c = fault_takes

pub returns-clause-no_memory : goal.returns-clause-no_memory
returns-clause-no_memory c = no_memory_takes

pub returns-clause-too_long : goal.returns-clause-too_long
returns-clause-too_long c = too_long_takes
