-- What a look at the stack tells: how an instruction goes on that takes what was found off.
use Rattle.std.specs.Prelude.{◌≡◌, ℕ, List, [], ◌∷◌, Option, Some, None, drop}
use Rattle.c11_num.specs.Ranges.{TypedNumber}
use Rattle.c11_flat.specs.declared.instr.Place.{Place}
use Rattle.c11_flat.specs.declared.slot.Slot.{Slot}
use Rattle.c11_flat.specs.Flat.{Next, Halts, on_value, on_place}
use Rattle.c11_machine.specs.declared.looks.Found.{Found}

abbrev pub SlotIn : Option Slot → List Slot → List Slot → Type 0
SlotIn None stack rest = stack ≡ []
SlotIn (Some slot) stack rest = stack ≡ slot ∷ rest

abbrev pub with_value : Option TypedNumber → List Slot → (TypedNumber → List Slot → Next) → Next
with_value None rest go = Halts
with_value (Some value) rest go = go value rest

abbrev pub ValueIn : Option TypedNumber → List Slot → List Slot → Type 0
ValueIn value stack rest = (go : TypedNumber → List Slot → Next) → on_value stack go ≡ with_value value rest go

abbrev pub with_place : Option Found → List Slot → (ℕ → List Slot → Next) → Next
with_place None stack go = Halts
with_place (Some found) stack go = go found.place (drop found.below stack)

abbrev pub PlaceIn : Place → Option Found → ℕ → List Slot → Type 0
PlaceIn place found depth stack = (go : ℕ → List Slot → Next) → on_place place (drop depth stack) go ≡ with_place found stack go
