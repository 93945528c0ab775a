-- What a checked program is.
use Rattle.std.specs.Prelude.{◌≡◌, Some}
use Rattle.c11_ast.specs.declared.item.Program.{Program}
use Rattle.c11_check.specs.declared.checked.Checked.{Checked}
use Rattle.c11_check.specs.Tables.{tables_of, main_of}

-- the program, its tables, and the number of its `main`
pub record IsChecked (program : Program) (checked : Checked) : Type 0 where
  pub program_is : checked.program ≡ program
  pub tables_are : checked.tables ≡ tables_of program
  pub main_is : main_of program ≡ Some checked.main
