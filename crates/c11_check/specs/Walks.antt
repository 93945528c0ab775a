-- What a walk over a part of a program keeps.
use Rattle.std.specs.Prelude.{◌≡◌, Option, Result, Ok, Err}
use Rattle.c11_num.specs.declared.memory.NoMemory.{NoMemory}
use Rattle.c11_check.specs.declared.fault.Fault.{Fault}
use Rattle.c11_check.specs.Scopes.{Scope}
use Rattle.c11_check.specs.Statements.{Walked}
use Rattle.c11_check.specs.Programs.{keep}

-- Unless memory ran out, the first fault is kept, and the scope is the one behind the part.
abbrev pub Walks : Walked → Option Fault → Result (Option Fault) NoMemory → Scope → Type 0
Walks walked first (Ok found) after = (found ≡ keep first walked.faults) × (after ≡ walked.scope)
Walks walked first (Err none) after = Unit {0}
