use Rattle.std.proofs.Common.{◌≡◌, ◌<◌, ℕ, Some, length, slice_get, vec_len, vec_capacity}
use Rattle.std.specs.Global.{Vec}
use Rattle.c11_mograph.specs.Lists.{HaveGrown}
use Rattle.c11_mograph.proofs.lists.make_room_everywhere.Given as goal

abbrev pub invariant-loop-place : goal.invariant-loop-place
invariant-loop-place l = record {
  count : length l.lists.items ≡ length l.fn.lists.items;
  grown : HaveGrown l.fn.lists.items l.lists.items;
  room : (cell : ℕ) (list : Vec ℕ) → cell < l.place → slice_get l.lists.items cell ≡ Some list → vec_len list < vec_capacity list;
}
