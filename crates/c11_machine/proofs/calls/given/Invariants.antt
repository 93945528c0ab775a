use Rattle.std.proofs.Common.{◌≡◌, ◌++◌, drop}
use Rattle.c11_flat.specs.Flat.{numbers_in}
use Rattle.c11_machine.specs.Slots.{values_of}
use Rattle.c11_machine.specs.Views.{numbers_of}
use Rattle.c11_machine.proofs.calls.given.Given as goal

abbrev pub invariant-loop-i : goal.invariant-loop-i
invariant-loop-i l = numbers_of l.given.items ++ numbers_in (drop l.i l.params) (values_of (drop l.i l.values)) ≡ numbers_in l.params (values_of l.values)
