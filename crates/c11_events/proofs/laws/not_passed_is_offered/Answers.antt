use Rattle.c11_events.proofs.Passing.{not_passed_is_offered}
use Rattle.c11_events.proofs.laws.not_passed_is_offered.Goals as goal

pub returns : goal.returns
returns c = not_passed_is_offered
