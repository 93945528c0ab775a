-- The tables belong to the events noted, and there is room for the rest.
use Rattle.std.specs.Prelude.{ℕ, ◌+◌, ◌≤◌, List, length}
use Rattle.c11_events.specs.declared.event.Event.{Event}
use Rattle.c11_happens.specs.declared.tables.Tables.{Tables}
use Rattle.c11_happens.specs.Mutexes.{state_in}
use Rattle.c11_happens.specs.Noting.{Contents}
use Rattle.c11_happens.specs.Kept.{IsKept}

-- the tables as lists
abbrev pub contents : Tables → Contents
contents k = record {
  created = k.created;
  clocks = k.clocks.items;
  passed = k.passed.items;
  known = k.known.items;
  fenced = k.fenced.items;
  read = k.read.items;
  ended = k.ended.items;
  mutexes = state_in k.mutexes;
}

pub record IsSound (threads room : ℕ) (events : List Event) (capacity spare : ℕ) (tables : Contents) : Type 0 where
  pub kept : IsKept threads room events tables
  pub capacity_left : room ≤ capacity
  pub spare_left : room ≤ length events + spare
