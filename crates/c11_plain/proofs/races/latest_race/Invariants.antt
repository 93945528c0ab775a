use Rattle.c11_plain.proofs.Conflicts.{Latest}
use Rattle.c11_plain.proofs.races.latest_race.Given as goal

abbrev pub invariant-loop-m : goal.invariant-loop-m
invariant-loop-m l = Latest l.events l.number l.m l.latest
