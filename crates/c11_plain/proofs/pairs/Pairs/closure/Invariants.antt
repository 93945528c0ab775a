use Rattle.c11_plain.specs.Pairs.{Holds, IsTableOf}
use Rattle.c11_plain.proofs.Ways.{Way}
use Rattle.c11_plain.proofs.pairs.Pairs.closure.Given as goal

abbrev pub invariant-loop-k : goal.invariant-loop-k
invariant-loop-k l = IsTableOf l.ways (Way (Holds l.self) l.k)
