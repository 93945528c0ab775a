use Rattle.c11_events.specs.Offered.{IsChainOffered, op_reading}
use Rattle.c11_plain.proofs.Rising.{IsRisingBelow}
use Rattle.c11_plain.proofs.chain_offers.chain_offered_of.Given as goal

abbrev pub invariant-loop-x : goal.invariant-loop-x
invariant-loop-x l = IsRisingBelow (IsChainOffered l.events l.thread (op_reading l.events l.op) l.cell) l.x l.offers.items
