use Rattle.c11_events.specs.Offered.{Offered}
use Rattle.c11_run.proofs.LegalRuns.{checked_asks_no_init, legal_consistent, legal_history}
use Rattle.c11_run.proofs.Living.{legal_live, legal_locks}
use Rattle.c11_run.proofs.laws.legal_histories.Goals as goal

pub returns-clause-consistent : goal.returns-clause-consistent
returns-clause-consistent c = legal_consistent

pub returns-clause-history : goal.returns-clause-history
returns-clause-history c = legal_history Offered

pub returns-clause-checked : goal.returns-clause-checked
returns-clause-checked c = checked_asks_no_init c.asks_are_legal.ensures

pub returns-clause-live : goal.returns-clause-live
returns-clause-live c = legal_live Offered

pub returns-clause-locks : goal.returns-clause-locks
returns-clause-locks c = legal_locks Offered
