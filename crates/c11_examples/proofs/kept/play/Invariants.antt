use Rattle.c11_examples.specs.Both.{IsKept}
use Rattle.c11_examples.proofs.kept.play.Given as goal

abbrev pub invariant-loop : goal.invariant-loop
invariant-loop l = IsKept l.reads l.events.items
