-- What the definitions of counts and stops come to, in other words.
use Rattle.std.specs.Prelude.{◌≡◌, ℕ, ◌+◌, ◌-◌, ◌^◌, ◌<◌, ◌≤◌, List, length, Some, ◌⊎◌}
use Rattle.c11_io.specs.Causes.{Rose}
use Rattle.c11_io.specs.Whole.{StopsReading, AppendsPart, OneRose}
use Rattle.c11_io.specs.declared.whole.ReadStop.TheVariants.{Fault, TooLong, NoMemory}

-- a count below its end that stayed has not risen
abbrev pub NoRiseWhereItStays : Type 0
NoRiseWhereItStays = (count : ℕ) → count < 2 ^ 64 - 1 → Rose count count → ⊥

-- one of the two counts of a writing that stopped has stayed
abbrev pub OneCountStays : Type 0
OneCountStays = (faults faults' empties empties' : ℕ) → OneRose faults faults' empties empties' → (faults' ≡ faults) ⊎ (empties' ≡ empties)

-- a writing that stopped appended fewer bytes than it was given
abbrev pub StopsBeforeTheLast : Type 0
StopsBeforeTheLast = (before now bytes : List ℕ) → AppendsPart (Some before) (Some now) bytes → length now < length before + length bytes

-- a reading that a fault stopped took the limit at most
abbrev pub FaultTakesTheLimit : Type 0
FaultTakesTheLimit = (left now : List ℕ) (limit : ℕ) → StopsReading (Some left) (Some now) limit Fault → length left ≤ length now + limit

-- so did one that want of memory stopped
abbrev pub NoMemoryTakesTheLimit : Type 0
NoMemoryTakesTheLimit = (left now : List ℕ) (limit : ℕ) → StopsReading (Some left) (Some now) limit NoMemory → length left ≤ length now + limit

-- a reading of a text that is too long took one byte more than the limit
abbrev pub TooLongTakesOneMore : Type 0
TooLongTakesOneMore = (left now : List ℕ) (limit : ℕ) → StopsReading (Some left) (Some now) limit TooLong → length left ≡ length now + (limit + 1)
