use Rattle.std.proofs.Common.{◌≡◌, ◌<◌, ◌≤◌, ℕ, max, slice_index}
use Rattle.c11_clock.proofs.join_into.Given as goal

abbrev pub invariant-loop-i : goal.invariant-loop-i
invariant-loop-i l =
    ((k : ℕ) → k < l.i → slice_index l.mine k ≡ max (slice_index l.fn.mine k) (slice_index l.theirs k))
    × ((k : ℕ) → l.i ≤ k → slice_index l.mine k ≡ slice_index l.fn.mine k)
