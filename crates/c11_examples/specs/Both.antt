-- For tests: what is kept of events, of two atomic cells and four threads, with room for 64.
use Rattle.std.specs.Prelude.{ℕ, ◌≡◌, ◌<◌, List, Some}
use Rattle.c11_events.specs.declared.event.Event.{Event}
use Rattle.c11_events.specs.declared.event.EventKind.{EventKind}
use Rattle.c11_events.specs.Events.{stored_cell, loaded_cell}
use Rattle.c11_mayread.specs.Standing.{Words, StandsFor, cells_of, threads_of, room_of}

pub record IsKept (words : Words) (events : List Event) : Type 0 where
  pub stands : StandsFor words events
  pub cells : cells_of words ≡ 2
  pub threads : threads_of words ≡ 4
  pub room : room_of words ≡ 64

-- the event is of one of the two cells, or of none
pub record IsOfTwoCells (kind : EventKind) : Type 0 where
  pub stored : (cell : ℕ) → stored_cell kind ≡ Some cell → cell < 2
  pub loaded : (cell : ℕ) → loaded_cell kind ≡ Some cell → cell < 2
