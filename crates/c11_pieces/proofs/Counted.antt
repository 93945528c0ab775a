-- The lengths of code, whatever lines it names.
use Rattle.std.proofs.Common.{◌≡◌, ℕ, ◌+◌, Bool, [], ◌∷◌, ◌++◌, length, Option, Some, refl, arith}
use Rattle.c11_num.specs.declared.kind.BinaryOp.{BinaryOp}
use Rattle.c11_num.specs.Ranges.{TypedNumber}
use Rattle.c11_check.specs.declared.entity.Entity.{Entity}
use Rattle.c11_check.specs.declared.entity.Entity.TheVariants as e
use Rattle.c11_flat.specs.declared.instr.Instr.TheVariants as i
use Rattle.c11_flat.specs.declared.instr.Place.{Place}
use Rattle.c11_flat.specs.declared.instr.Place.TheVariants.{At, OnStack}
use Rattle.c11_flat.specs.Pieces.{Piece, dropped, read_code, write_code, compound, step}
use Rattle.c11_pieces.specs.Sizes.{dropped_size, read_size, write_size, compound_size, step_size}

pub dropped_length : (place : Place) → length (dropped place) ≡ dropped_size place
dropped_length (At place) = refl
dropped_length OnStack = refl

pub instead_length : (place : Place) (value : TypedNumber) → length (dropped place ++ i.Push value ∷ []) ≡ dropped_size place + 1
instead_length (At place) value = refl
instead_length OnStack value = refl

pub read_length : (entity : Option Entity) (line : ℕ) (place : Place) → length (read_code entity line place) ≡ read_size entity place
read_length (Some (e.Local ctype base size)) line place = refl
read_length (Some (e.Plain ctype base size)) line place = refl
read_length (Some (e.Atomic ctype base size)) line place = refl
read_length (Some (e.Defined value)) line place = instead_length place _
read_length (Some (e.Constant constant)) line place = instead_length place _
read_length _ line place = instead_length place _

pub write_length : (entity : Option Entity) (line : ℕ) (place : Place) → length (write_code entity line place) ≡ write_size entity place
write_length (Some (e.Local ctype base size)) line place = refl
write_length (Some (e.Plain ctype base size)) line place = refl
write_length (Some (e.Atomic ctype base size)) line place = refl
write_length _ line (At place) = refl
write_length _ line OnStack = refl

pub compound_length : (entity : Option Entity) (line op_line : ℕ) (op : BinaryOp) (place : Place) (value : Piece)
    → (compound entity line op_line op place value).size ≡ compound_size entity place value.size
compound_length (Some (e.Local ctype base size)) line op_line op place value = omega arith
compound_length (Some (e.Plain ctype base size)) line op_line op place value = omega arith
compound_length (Some (e.Atomic ctype base size)) line op_line op place value = refl
compound_length _ line op_line op place value = instead_length place _

pub step_length : (entity : Option Entity) (line op_line : ℕ) (up before : Bool) (place : Place) → length (step entity line op_line up before place) ≡ step_size entity place
step_length (Some (e.Local ctype base size)) line op_line up before place = refl
step_length (Some (e.Plain ctype base size)) line op_line up before place = refl
step_length (Some (e.Atomic ctype base size)) line op_line up before place = refl
step_length _ line op_line up before place = instead_length place _
