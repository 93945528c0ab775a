use Rattle.std.proofs.Common.{◌≡◌, [], All, length}
use Rattle.c11_mograph.proofs.lists.empty_lists.Given as goal

abbrev pub invariant-loop : goal.invariant-loop
invariant-loop l = record {
  count : length l.lists.items ≡ l.counter;
  empty : All (λ list. list.items ≡ []) l.lists.items;
}
