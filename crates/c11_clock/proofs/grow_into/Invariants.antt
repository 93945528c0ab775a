use Rattle.std.proofs.Common.{◌≡◌, ◌<◌, ◌≤◌, ◌↔◌, ℕ, IsTrue, max, slice_index}
use Rattle.c11_clock.proofs.grow_into.Given as goal

abbrev pub invariant-loop-place : goal.invariant-loop-place
invariant-loop-place l = record {
  done : (k : ℕ) → k < l.place → slice_index l.mine k ≡ max (slice_index l.fn.mine k) (slice_index l.theirs k);
  left : (k : ℕ) → l.place ≤ k → slice_index l.mine k ≡ slice_index l.fn.mine k;
  raised : IsTrue l.raised ↔ ((k : ℕ) × ((k < l.place) × (slice_index l.fn.mine k < slice_index l.theirs k)));
}
