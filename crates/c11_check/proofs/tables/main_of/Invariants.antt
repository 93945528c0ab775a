use Rattle.std.proofs.Common.{◌≡◌, ◌≤◌, drop}
use Rattle.c11_check.specs.Tables.{main_from}
use Rattle.c11_check.proofs.tables.main_of.Given as goal

abbrev pub invariant-loop-item : goal.invariant-loop-item
invariant-loop-item l = record {
  number : l.number ≤ l.item-index;
  main : main_from l.number (drop l.item-index l.items) ≡ main_from 0 l.items;
}
