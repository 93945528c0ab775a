use Rattle.c11_examples.specs.Both.{IsKept}
use Rattle.c11_examples.proofs.kept.begin.Given as goal

abbrev pub invariant-loop-cell : goal.invariant-loop-cell
invariant-loop-cell l = IsKept l.reads l.events.items

abbrev pub invariant-loop-thread : goal.invariant-loop-thread
invariant-loop-thread l = IsKept l.reads l.events.items
