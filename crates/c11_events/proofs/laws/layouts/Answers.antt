use Rattle.c11_events.proofs.Layouts.{layout_exists, layout_lawful}
use Rattle.c11_events.proofs.OneLayout.{layout_one, layout_rises}
use Rattle.c11_events.proofs.laws.layouts.Goals as goal

pub returns-clause-exists : goal.returns-clause-exists
returns-clause-exists c = layout_exists

pub returns-clause-lawful : goal.returns-clause-lawful
returns-clause-lawful c = layout_lawful

pub returns-clause-one : goal.returns-clause-one
returns-clause-one c = layout_one

pub returns-clause-rises : goal.returns-clause-rises
returns-clause-rises c = layout_rises
