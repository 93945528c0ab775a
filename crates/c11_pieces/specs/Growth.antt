-- Code that grows by pieces.
use Rattle.std.specs.Prelude.{◌≡◌, ◌+◌, List, ◌++◌, length}
use Rattle.c11_flat.specs.declared.instr.Instr.{Instr}
use Rattle.c11_flat.specs.Pieces.{Piece}

-- The piece stands behind what was there, and has the size that it says.
pub record Grows (old new : List Instr) (piece : Piece) : Type 0 where
  pub code : new ≡ old ++ piece.code (length old)
  pub size : length new ≡ length old + piece.size
