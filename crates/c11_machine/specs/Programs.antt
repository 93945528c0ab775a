-- A checked program, as its runs take it.
use Rattle.c11_check.specs.declared.checked.Checked.{Checked}
use Rattle.c11_meaning.specs.Asks.{asks_of}
use Rattle.c11_machine.specs.Runs.{Program}

-- its cells and its main, from its tables, and what its threads ask for, from its trees
abbrev pub program_of : Checked → Program
program_of checked = record {
  setting = record { atomic = checked.tables.atomics; plain = checked.tables.plains; main = checked.main };
  asks = asks_of checked.program;
}
