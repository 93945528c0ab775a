-- What became of a machine by one instruction.
use Rattle.std.specs.Prelude.{◌≡◌, ◌-◌, ℕ, zero, suc, List, ◌++◌, Bool, true, false, Result, Ok, Err, ℤ, pos, length, replicate, slice_set}
use Rattle.c11_num.specs.Ranges.{TypedNumber}
use Rattle.c11_num.specs.declared.memory.NoMemory.{NoMemory}
use Rattle.c11_num.specs.declared.value.CType.{CType}
use Rattle.c11_flat.specs.declared.instr.Instr.{Instr}
use Rattle.c11_flat.specs.declared.instr.Instr.TheVariants.{Print, Call, Return, Clear}
use Rattle.c11_flat.specs.Code.{Whole}
use Rattle.c11_flat.specs.Flat.{Config, Next, To, Says, Halts, act, numbers_in}
use Rattle.c11_machine.specs.declared.step.Step.{Step}
use Rattle.c11_machine.specs.declared.step.Step.TheVariants.{On, Asks, Stuck}

-- where memory is short, nothing changes
abbrev pub Took : Next → Config → Config → Result Step NoMemory → Type 0
Took next old new (Ok On) = next ≡ To new
Took next old new (Ok (Asks ask)) = (next ≡ Says ask) × (new ≡ old)
Took next old new (Ok Stuck) = next ≡ Halts
Took next old new (Err short) = new ≡ old

-- whether it was done; where not, nothing changes
abbrev pub Did : Next → Config → Config → Bool → Type 0
Did next old new true = next ≡ To new
Did next old new false = new ≡ old

abbrev pub DidAs : Instr → Config → Config → Bool → Type 0
DidAs instr old new did = (code : Whole) → Did (act code instr old) old new did

-- 0 at so many places from this one on
abbrev pub zeros : ℕ → ℕ → List ℤ → List ℤ
zeros place zero numbers = numbers
zeros place (suc count) numbers = zeros (suc place) count (slice_set numbers place (pos 0))

-- the places of a function with these parameters
abbrev pub places_for : List CType → ℕ → List TypedNumber → List ℤ
places_for params places values = numbers_in params values ++ replicate (places - length params) (pos 0)

-- it may take memory for more than a slot, or leaves its function
pub data IsOuter : Instr → Type 0 where
  prints : {line : ℕ} {text : List ℕ} {count : ℕ} → IsOuter (Print line text count)
  calls : {line function count : ℕ} → IsOuter (Call line function count)
  returns : {line : ℕ} → IsOuter (Return line)
  clears : {place count : ℕ} → IsOuter (Clear place count)

-- whether a thread begins; where memory is short, nothing changes
abbrev pub Begins : Next → Config → Config → Result Bool NoMemory → Type 0
Begins next old new (Ok true) = next ≡ To new
Begins next old new (Ok false) = next ≡ Halts
Begins next old new (Err short) = new ≡ old
