use Rattle.std.proofs.Common.{◌≡◌, ℕ, ◌<◌, ◌/◌, ◌%◌, vec_len, Bool, Some, slice_get}
use Rattle.c11_plain.proofs.pairs.Pairs.new.Given as goal

abbrev pub invariant-loop-place : goal.invariant-loop-place
invariant-loop-place g l =
    (vec_len l.bits ≡ l.place)
    × ((j : ℕ) (bit : Bool) → j < l.place → slice_get l.bits.items j ≡ Some bit → goal.F-post g l.test (j / l.width) (j % l.width) bit)
