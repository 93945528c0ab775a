use Rattle.c11_plain.proofs.Keeping.{KeepsBelow}
use Rattle.c11_plain.proofs.lawful.first_broken.Given as goal

abbrev pub invariant-loop-place : goal.invariant-loop-place
invariant-loop-place l = KeepsBelow l.events l.cell l.order l.place
