use Rattle.std.proofs.Common.{◌≡◌, ℕ, ◌<◌, Some, slice_get}
use Rattle.c11_events.specs.declared.event.Event.{Event}
use Rattle.c11_plain.specs.Consistency.{HasOrders}
use Rattle.c11_plain.proofs.consistent.is_consistent.Given as goal

abbrev pub invariant-loop-event : goal.invariant-loop-event
invariant-loop-event l = (k : ℕ) (e : Event) → k < l.event-index → slice_get l.events k ≡ Some e → HasOrders l.events e
