use Rattle.c11_mayread.specs.Played.{IsPlayed}
use Rattle.c11_parts.proofs.reads.begin.Given as goal

abbrev pub invariant-loop-event : goal.invariant-loop-event
invariant-loop-event l = IsPlayed l.reads l.count
