use Rattle.std.proofs.Common.{◌≡◌, [], All, length}
use Rattle.c11_shadow.proofs.cell.no_accesses.Given as goal

abbrev pub invariant-loop : goal.invariant-loop
invariant-loop l = record {
  count : length l.cells.items ≡ l.counter;
  none : All (λ kept. (kept.write ≡ 0) × (kept.reads.items ≡ [])) l.cells.items;
}
