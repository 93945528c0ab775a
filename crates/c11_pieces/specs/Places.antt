-- Objects: where each is, and what an assignment has behind that.
use Rattle.std.specs.Prelude.{ℕ, Bool, true, false, Option, Some, None}
use Rattle.c11_num.specs.declared.kind.BinaryOp.{BinaryOp}
use Rattle.c11_check.specs.declared.entity.Entity.{Entity}
use Rattle.c11_meaning.specs.Objects.{entity_base, entity_size}
use Rattle.c11_flat.specs.declared.instr.Place.{Place}
use Rattle.c11_flat.specs.declared.instr.Place.TheVariants.{At}
use Rattle.c11_flat.specs.Pieces.{Piece, plain, joined, place_by, write_code, compound}

-- by what the name denotes, and by whether it has an index
abbrev pub placed : Option Entity → Bool → Place
placed entity false = At (entity_base entity)
placed entity true = place_by (entity_size entity) (entity_base entity)

-- behind the place of the object
abbrev pub assigned : Option BinaryOp → Option Entity → ℕ → ℕ → Place → Piece → Piece
assigned None entity line op_line place value = joined value (plain (write_code entity line place))
assigned (Some op) entity line op_line place value = compound entity line op_line op place value
