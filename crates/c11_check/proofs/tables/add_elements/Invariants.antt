use Rattle.std.proofs.Common.{◌≡◌, ◌++◌, ◌-◌}
use Rattle.c11_check.specs.Tables.{element_cells}
use Rattle.c11_check.proofs.tables.add_elements.Given as goal

abbrev pub invariant-loop-place : goal.invariant-loop-place
invariant-loop-place l = l.cells.items ++ element_cells l.scopes l.name l.ctype l.start l.place (l.count - l.place) ≡ l.initial.cells.items ++ element_cells l.scopes l.name l.ctype l.start 0 l.count
