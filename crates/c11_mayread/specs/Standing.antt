-- What is kept of the events, with the graph, and the events for which it stands.
use Rattle.std.specs.Prelude.{ℕ, ◌≡◌, ◌<◌, ◌≤◌, ◌+◌, true, List, [], ◌∷◌, ◌++◌, Some, length}
use Rattle.c11_events.specs.declared.event.Event.{Event}
use Rattle.c11_events.specs.Events.{stored_cell, loaded_cell}
use Rattle.c11_events.specs.Chains.{ChainLawful}
use Rattle.c11_mograph.specs.Made.{Made}
use Rattle.c11_mograph.specs.Words as graphs
use Rattle.c11_scorder.specs.Tables as tables
use Rattle.c11_mayread.specs.Facts.{Facts, IsPastOf}
use Rattle.c11_mayread.specs.Agreement.{Agrees}

pub record Words : Type 0 where
  pub past : Facts
  pub graph : graphs.Words

-- the counts of the opening, and how many events were committed

abbrev pub cells_of : Words → ℕ
cells_of words = tables.cells_of words.past.order

abbrev pub threads_of : Words → ℕ
threads_of words = words.past.threads

abbrev pub room_of : Words → ℕ
room_of words = words.past.happens.room

abbrev pub committed : Words → ℕ
committed words = length words.past.kept

-- room was made for an event
abbrev pub IsReady : Words → Type 0
IsReady words = words.graph.ready ≡ true

-- the words are those of these events
pub record StandsFor (words : Words) (events : List Event) : Type 0 where
  pub past : IsPastOf words.past events
  pub lawful : ChainLawful events
  pub made : Made
  pub graph : graphs.StandsFor words.graph made
  pub agrees : Agrees made events

-- the further event can be committed: it is the next one, its thread and its atomic cell are within the counts, and it keeps the
-- events chain-lawful
pub record CanCommit (words : Words) (events : List Event) (e : Event) : Type 0 where
  pub number : e.number ≡ length events + 1
  pub room : length events < room_of words
  pub thread : e.thread < threads_of words
  pub stored : (cell : ℕ) → stored_cell e.kind ≡ Some cell → cell < cells_of words
  pub loaded : (cell : ℕ) → loaded_cell e.kind ≡ Some cell → cell < cells_of words
  pub lawful : ChainLawful (events ++ e ∷ [])

-- the counts of the opening are the same
pub record HaveSameCounts (old new : Words) : Type 0 where
  pub cells : cells_of new ≡ cells_of old
  pub threads : threads_of new ≡ threads_of old
  pub events : room_of new ≡ room_of old

-- the graph has the same counts, and room for as many stores as there may be events
pub record AreFitting (words : Words) : Type 0 where
  pub cells : length words.graph.lists ≡ cells_of words
  pub threads : words.graph.threads ≡ threads_of words
  pub size : words.graph.size ≡ room_of words
  pub few : length words.graph.numbers ≤ committed words
