-- For tests: what stands for so many events of two cells and four threads, with room for 64.
use Rattle.std.specs.Prelude.{ℕ, ◌≡◌, List, length}
use Rattle.c11_events.specs.declared.event.Event.{Event}
use Rattle.c11_mayread.specs.Standing.{Words, StandsFor, cells_of, threads_of, room_of}

pub record IsPlayed (words : Words) (count : ℕ) : Type 0 where
  pub events : List Event
  pub stands : StandsFor words events
  pub count_is : length events ≡ count
  pub cells : cells_of words ≡ 2
  pub threads : threads_of words ≡ 4
  pub room : room_of words ≡ 64
