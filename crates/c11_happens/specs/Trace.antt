-- What has been noted.
use Rattle.std.specs.Prelude.{ℕ, List, []}
use Rattle.c11_events.specs.declared.event.EventKind.{EventKind}
use Rattle.c11_events.specs.declared.event.EventKind.TheVariants.{Out}
use Rattle.c11_events.specs.declared.event.Event.{Event}

-- the event, but for the text of an Out, which happens-before does not see
abbrev pub textless_kind : EventKind → EventKind
textless_kind (Out bytes) = Out []
textless_kind kind = kind

abbrev pub textless : Event → Event
textless e = record { number = e.number; thread = e.thread; kind = textless_kind e.kind; from = e.from }

-- the events noted, without texts, and how many threads and events there may be
pub record Trace : Type 0 where
  pub threads : ℕ
  pub room : ℕ
  pub events : List Event
