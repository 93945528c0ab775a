use Rattle.c11_events.specs.Offered.{IsOffered, op_reading}
use Rattle.c11_plain.proofs.Rising.{IsRisingBelow}
use Rattle.c11_plain.proofs.offers.offered_of.Given as goal

abbrev pub invariant-loop-x : goal.invariant-loop-x
invariant-loop-x l = IsRisingBelow (IsOffered l.events l.thread (op_reading l.events l.op) l.cell) l.x l.offers.items
