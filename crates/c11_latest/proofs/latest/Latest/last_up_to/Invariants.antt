use Rattle.c11_latest.proofs.Searching.{AreAbove, measure}
use Rattle.c11_latest.proofs.latest.Latest.last_up_to.Given as goal

abbrev pub invariant-loop-place : goal.invariant-loop-place
invariant-loop-place l = AreAbove l.self-inside.notes.items l.cell l.thread l.number l.place

abbrev pub decreases-loop-place : goal.decreases-loop-place
decreases-loop-place l = measure l.place
