use Rattle.c11_events.proofs.Racing.{races_kept, racing_kept}
use Rattle.c11_events.proofs.laws.races_are_kept.Goals as goal

pub returns-clause-races : goal.returns-clause-races
returns-clause-races c = races_kept

pub returns-clause-racing : goal.returns-clause-racing
returns-clause-racing c = racing_kept
