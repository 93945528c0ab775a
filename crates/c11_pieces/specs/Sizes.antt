-- How many instructions the code of objects and calls has, whatever lines they name.
use Rattle.std.specs.Prelude.{ℕ, ◌+◌, ◌∷◌, Option, Some}
use Rattle.c11_check.specs.declared.entity.Entity.{Entity}
use Rattle.c11_check.specs.declared.entity.Entity.TheVariants as e
use Rattle.c11_check.specs.declared.library.Library.{Library}
use Rattle.c11_check.specs.declared.library.Library.TheVariants as l
use Rattle.c11_check.specs.Scopes.{Scope}
use Rattle.c11_flat.specs.declared.instr.Place.{Place}
use Rattle.c11_flat.specs.declared.instr.Place.TheVariants.{At, OnStack}
use Rattle.c11_pieces.specs.Calls.{Givens, place_given}

abbrev pub dropped_size : Place → ℕ
dropped_size (At place) = 0
dropped_size OnStack = 1

abbrev pub read_size : Option Entity → Place → ℕ
read_size (Some (e.Local ctype base size)) place = 1
read_size (Some (e.Plain ctype base size)) place = 1
read_size (Some (e.Atomic ctype base size)) place = 1
read_size _ place = dropped_size place + 1

abbrev pub write_size : Option Entity → Place → ℕ
write_size (Some (e.Local ctype base size)) place = 1
write_size (Some (e.Plain ctype base size)) place = 1
write_size (Some (e.Atomic ctype base size)) place = 1
write_size _ place = dropped_size place + 2

-- of a compound assignment, where the code of its value has so many
abbrev pub compound_size : Option Entity → Place → ℕ → ℕ
compound_size (Some (e.Local ctype base size)) place value = value + 3
compound_size (Some (e.Plain ctype base size)) place value = value + 3
compound_size (Some (e.Atomic ctype base size)) place value = value + 1
compound_size _ place value = dropped_size place + 1

abbrev pub step_size : Option Entity → Place → ℕ
step_size (Some (e.Local ctype base size)) place = 3
step_size (Some (e.Plain ctype base size)) place = 3
step_size (Some (e.Atomic ctype base size)) place = 2
step_size _ place = dropped_size place + 1

-- of the instructions behind the operands of a call of the library, whose arguments fit
abbrev pub finals_size : Library → Givens → Scope → ℕ
finals_size (l.Store explicit) givens scope = 2
finals_size l.MutexDestroy (m ∷ rest) scope = dropped_size (place_given m scope) + 1
finals_size _ givens scope = 1
