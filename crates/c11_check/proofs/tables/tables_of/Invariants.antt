use Rattle.std.proofs.Common.{◌≡◌, drop}
use Rattle.c11_check.specs.Tables.{declare_items, together, nothing_declared}
use Rattle.c11_check.proofs.tables.tables_of.Given as goal

abbrev pub invariant-loop-item : goal.invariant-loop-item
invariant-loop-item l = declare_items (drop l.item-index l.item-items) (together l.scopes l.tables) ≡ declare_items l.program.items nothing_declared
