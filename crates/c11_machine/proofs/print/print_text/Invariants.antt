use Rattle.std.proofs.Common.{◌≡◌, ◌++◌, ◌≤◌, drop, length}
use Rattle.c11_check.specs.declared.format.Within.TheVariants.{Plain}
use Rattle.c11_meaning.specs.Prints.{printed}
use Rattle.c11_machine.specs.Slots.{values_of}
use Rattle.c11_machine.proofs.print.print_text.Given as goal

abbrev pub invariant-loop-byte : goal.invariant-loop-byte
invariant-loop-byte l = (l.bytes.items ++ printed l.within (drop l.byte-index l.text) (values_of (drop l.used l.slots)) ≡ printed Plain l.text (values_of l.slots)) × (l.used ≤ length l.slots)
