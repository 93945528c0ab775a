use Rattle.c11_events.specs.Offered.{Offered}
use Rattle.c11_run.proofs.LegalRuns.{run_legal}
use Rattle.c11_run.proofs.OneRuns.{run_one}
use Rattle.c11_run.proofs.laws.one_run_is_one.Goals as goal

pub returns-clause-legal : goal.returns-clause-legal
returns-clause-legal c = run_legal Offered

pub returns-clause-one : goal.returns-clause-one
returns-clause-one c = run_one
