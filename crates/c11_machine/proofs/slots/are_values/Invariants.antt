use Rattle.std.proofs.Common.{◌≡◌, drop}
use Rattle.c11_machine.specs.Slots.{are_values}
use Rattle.c11_machine.proofs.slots.are_values.Given as goal

abbrev pub invariant-loop-slot : goal.invariant-loop-slot
invariant-loop-slot l = are_values (drop l.slot-index l.slots) ≡ are_values l.slots
