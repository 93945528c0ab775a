use Rattle.std.proofs.Common.{ℕ, ◌-◌, ◌<◌, ◌++◌, ◌∷◌, []}
use Rattle.c11_plain.specs.Consistency.{Extends}
use Rattle.c11_plain.proofs.consistent.+extends.Given as goal

abbrev pub decreases-extends : goal.decreases-extends
decreases-extends l = l.depth

abbrev pub invariant-loop-x : goal.invariant-loop-x
invariant-loop-x l = (y : ℕ) → y < l.x → Extends l.events l.cell (l.order ++ y ∷ []) (l.depth - 1) → ⊥
