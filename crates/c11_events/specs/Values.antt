-- The values that stores write.
use Rattle.std.specs.Prelude.{ℕ, zero, suc, pos, List, Option, Some, None}
use Rattle.c11_num.specs.Ranges.{TypedNumber}
use Rattle.c11_num.specs.Wrapping.{wrapping}
use Rattle.c11_num.specs.declared.value.CType.TheVariants.{Int}
use Rattle.c11_events.specs.declared.event.EventKind.{EventKind}
use Rattle.c11_events.specs.declared.event.EventKind.TheVariants.{Init, AtomicStore, Rmw}
use Rattle.c11_events.specs.declared.event.Event.{Event}
use Rattle.c11_events.specs.Events.{event_at}

-- what stands for the value of an event that is no store
abbrev pub no_value : TypedNumber
no_value = record { ctype = Int; number = pos 0 }

-- what a store writes, by the value that it reads
abbrev pub written : EventKind → TypedNumber → TypedNumber
written (Init cell value) old = value
written (AtomicStore cell order value) old = value
written (Rmw cell order kind operand) old = wrapping kind old operand
written _ old = no_value

abbrev pub written_by : Option Event → (ℕ → TypedNumber) → TypedNumber
written_by None value = no_value
written_by (Some e) value = written e.kind (value e.from)

-- the value of the store x, through at most so many stores, x among them
abbrev pub value_within : ℕ → List Event → ℕ → TypedNumber
value_within zero events x = no_value
value_within (suc count) events x = written_by (event_at events x) (λ y. value_within count events y)

-- the value of the store x; each read-modify-write reads an earlier store, so at most x of them lead back to the first
abbrev pub value_of : List Event → ℕ → TypedNumber
value_of events x = value_within (suc x) events x
