use Rattle.c11_shadow.proofs.Scans.{NewestBelow}
use Rattle.c11_shadow.proofs.cell.newest_apart.Given as goal

abbrev pub invariant-loop-epoch : goal.invariant-loop-epoch
invariant-loop-epoch l = NewestBelow l.reads l.thread l.clock l.epoch-index l.newest
