use Rattle.std.proofs.Common.{ap, ◌∙◌, arith}
use Rattle.std.proofs.lemmas.List.Sums.{count_by-le-length}
use Rattle.c11_events.specs.declared.event.Event.{Event}
use Rattle.c11_events.specs.Events.{is_create}
use Rattle.c11_events.specs.EventOf.{events_of}
use Rattle.c11_events.specs.Threads.{created}
use Rattle.c11_events.proofs.Histories.{length-events_of}
use Rattle.c11_history.specs.Past.{Past}
use Rattle.c11_history.proofs.history.History.created.Goals as goal

pub returns-clause-count : goal.returns-clause-count
returns-clause-count c = c.created.ensures.stands _ _ c.self.invariant.replies_stand ∙ ap (λ (p : Past). created (events_of p.entries)) c.self.view_is

pub returns-clause-few : goal.returns-clause-few
returns-clause-few c =
    let entries = c.self.inside.entries.items in
    omega (arith, c.created.ensures.stands _ _ c.self.invariant.replies_stand, count_by-le-length (λ (e : Event). is_create e.kind) (events_of entries), length-events_of entries, c.self.invariant.few)
