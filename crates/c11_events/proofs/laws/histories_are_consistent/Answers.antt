use Rattle.c11_events.proofs.Histories.{inits_consistent, step_consistent}
use Rattle.c11_events.proofs.laws.histories_are_consistent.Goals as goal

pub returns-clause-inits : goal.returns-clause-inits
returns-clause-inits c = inits_consistent

pub returns-clause-steps : goal.returns-clause-steps
returns-clause-steps c = step_consistent
