use Rattle.std.proofs.Common.{◌≡◌, take}
use Rattle.c11_run.specs.Output.{output_of}
use Rattle.c11_run.proofs.whole.Run.output.Given as goal

abbrev pub invariant-loop-entry : goal.invariant-loop-entry
invariant-loop-entry l = l.bytes.items ≡ output_of (take l.entry-index l.entry-items)
