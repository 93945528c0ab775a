use Rattle.c11_mayread.specs.Played.{IsPlayed}
use Rattle.c11_parts.proofs.reads.play.Given as goal

abbrev pub invariant-loop-line : goal.invariant-loop-line
invariant-loop-line l = IsPlayed l.reads l.count
