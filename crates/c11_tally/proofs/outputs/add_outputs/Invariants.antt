use Rattle.c11_tally.specs.Pairs.{pairs_of, Adds}
use Rattle.c11_tally.proofs.outputs.add_outputs.Given as goal

abbrev pub invariant-loop-output : goal.invariant-loop-output
invariant-loop-output l = Adds (pairs_of l.yielded) (pairs_of l.fn.outputs.entries) (pairs_of l.outputs.entries)
