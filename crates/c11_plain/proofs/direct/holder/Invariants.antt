use Rattle.std.proofs.Common.{◌≡◌, drop}
use Rattle.c11_events.specs.Threads.{holder, holder_from}
use Rattle.c11_plain.proofs.direct.holder.Given as goal

abbrev pub invariant-loop-event : goal.invariant-loop-event
invariant-loop-event l = holder_from l.held l.mutex (drop l.event-index l.events) ≡ holder l.events l.mutex
