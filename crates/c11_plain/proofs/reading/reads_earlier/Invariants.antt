use Rattle.std.proofs.Common.{◌≡◌, ℕ, ◌<◌, Some, slice_get}
use Rattle.c11_events.specs.declared.event.Event.{Event}
use Rattle.c11_plain.specs.Reading.{ReadsWell}
use Rattle.c11_plain.proofs.reading.reads_earlier.Given as goal

abbrev pub invariant-loop-place : goal.invariant-loop-place
invariant-loop-place l = (k : ℕ) (e : Event) → k < l.place → slice_get l.events k ≡ Some e → ReadsWell l.events e k
