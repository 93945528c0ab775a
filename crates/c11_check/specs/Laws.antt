-- The laws of the checks.
use Rattle.std.specs.Prelude.{◌≡◌, ◌⊎◌, List, []}
use Rattle.c11_check.specs.declared.fault.Fault.{Fault}
use Rattle.c11_check.specs.Programs.{IsFirst}

-- Faults have one first fault at most.
abbrev pub OneFirst : Type 0
OneFirst = (faults : List Fault) (one another : Fault) → IsFirst faults one → IsFirst faults another → one ≡ another

-- Where there are faults, one of them is the first.
abbrev pub SomeFirst : Type 0
SomeFirst = (faults : List Fault) → (faults ≡ []) ⊎ ((fault : Fault) × IsFirst faults fault)
