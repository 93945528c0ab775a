use Rattle.std.proofs.Common.{subst}
use Rattle.c11_events.specs.EventOf.{events_of}
use Rattle.c11_events.specs.Lawful.{Consistent}
use Rattle.c11_events.proofs.Sufficient.{consistent}
use Rattle.c11_history.specs.Past.{Past}
use Rattle.c11_history.proofs.history.History.into_entries.Goals as goal

pub returns-clause-consistent : goal.returns-clause-consistent
returns-clause-consistent c = subst (λ (p : Past). Consistent (events_of p.entries)) c.self.view_is (consistent (events_of c.self.inside.entries.items) c.self.invariant.reads_stand.lawful)
