-- How an event's links change the graph, for private functions alone.
use Rattle.std.specs.Prelude.{suc, ◌≡◌, ◌<◌, ◌≤◌, ◌+◌, true, List, [], ◌∷◌, ◌++◌, length}
use Rattle.c11_events.specs.declared.event.Event.{Event}
use Rattle.c11_events.specs.Chains.{ChainLawful}
use Rattle.c11_mograph.specs.Made.{Made}
use Rattle.c11_mograph.specs.Words.{Words, StandsFor}
use Rattle.c11_scorder.specs.Tables.{cells_of}
use Rattle.c11_mayread.specs.Facts.{Facts, IsPastOf}
use Rattle.c11_mayread.specs.Agreement.{Agrees}

-- a graph that agrees with the events agrees with the events and the further one
abbrev pub Links : Facts → Event → Words → Words → Type 0
Links facts e old new = (events : List Event) (m : Made) → IsPastOf facts events → e.number ≡ suc (length events) → ChainLawful events → ChainLawful (events ++ e ∷ []) → StandsFor old m → Agrees m events
    → (n : Made) × (StandsFor new n × Agrees n (events ++ e ∷ []))

-- there is room for a store
pub record CanLink (facts : Facts) (graph : Words) : Type 0 where
  pub cells : length graph.lists ≡ cells_of facts.order
  pub threads : graph.threads ≡ facts.threads
  pub size : length graph.numbers < graph.size
  pub ready : graph.ready ≡ true

-- there is one store more at most; the counts with which the graph was opened are as they were
pub record AddsAtMostOne (old new : Words) : Type 0 where
  pub stores : length new.numbers ≤ length old.numbers + 1
  pub cells : length new.lists ≡ length old.lists
  pub threads : new.threads ≡ old.threads
  pub size : new.size ≡ old.size
