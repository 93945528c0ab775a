use Rattle.std.proofs.Common.{◌≡◌, take}
use Rattle.c11_tally.specs.Tallies.{cut, output_of}
use Rattle.c11_tally.proofs.outputs.read_output.Given as goal

abbrev pub invariant-loop-entry : goal.invariant-loop-entry
invariant-loop-entry l = l.buffer.items ≡ cut (output_of (take l.entry-index l.entries))
