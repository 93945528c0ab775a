use Rattle.std.proofs.Common.{◌≡◌, ◌≤◌, ◌+◌, drop, length}
use Rattle.c11_check.specs.Lies.{signatures_in}
use Rattle.c11_asks.proofs.tell.function_count.Given as goal

abbrev pub invariant-loop-item : goal.invariant-loop-item
invariant-loop-item l = record {
  within : l.count ≤ l.item-index;
  count : l.count + length (signatures_in (drop l.item-index l.item-items)) ≡ length (signatures_in l.item-items);
}
