use Rattle.std.proofs.Common.{ℕ, ◌<◌, false}
use Rattle.c11_plain.proofs.search.some_place.Given as goal

abbrev pub invariant-loop-k : goal.invariant-loop-k
invariant-loop-k g l = (k : ℕ) → k < l.k → goal.F-post g l.test k false
