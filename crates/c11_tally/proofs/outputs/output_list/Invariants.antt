use Rattle.std.proofs.Common.{◌≡◌}
use Rattle.c11_tally.specs.Pairs.{pairs_of}
use Rattle.c11_tally.proofs.outputs.output_list.Given as goal

abbrev pub invariant-loop-output : goal.invariant-loop-output
invariant-loop-output l = l.pairs.items ≡ pairs_of l.yielded
