-- Values that lie on a stack.
use Rattle.std.specs.Prelude.{◌≡◌, ℕ, ◌+◌, Bool, true, false, List, [], ◌∷◌, Option, Some, None, drop, length, map, reverse}
use Rattle.c11_num.specs.Ranges.{TypedNumber}
use Rattle.c11_meaning.specs.Objects.{nothing}
use Rattle.c11_flat.specs.declared.slot.Slot.{Slot}
use Rattle.c11_flat.specs.declared.slot.Slot.TheVariants.{Value, Place}
use Rattle.c11_flat.specs.Flat.{Next, Halts, popping}

abbrev pub slot_value : Slot → TypedNumber
slot_value (Value value) = value
slot_value (Place place) = nothing

abbrev pub values_of : List Slot → List TypedNumber
values_of slots = map slot_value slots

abbrev pub are_values : List Slot → Bool
are_values [] = true
are_values (Value value ∷ slots) = are_values slots
are_values (Place place ∷ slots) = false

-- where the last so many items begin, which are values; none where there are fewer, or others
abbrev pub ValuesFrom : Option ℕ → ℕ → List Slot → Type 0
ValuesFrom None count items = (go : List TypedNumber → List Slot → Next) → popping count [] (reverse items) go ≡ Halts
ValuesFrom (Some bottom) count items = (bottom + count ≡ length items)
    × ((go : List TypedNumber → List Slot → Next) → popping count [] (reverse items) go ≡ go (values_of (drop bottom items)) (drop count (reverse items)))
