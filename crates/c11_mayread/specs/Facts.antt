-- What is kept of the events, and the events for which it stands.
use Rattle.std.specs.Prelude.{ℕ, suc, ◌≡◌, ◌<◌, ◌≤◌, ◌+◌, List, [], ◌∷◌, ◌++◌, Option, Some, length, map, slice_get}
use Rattle.c11_events.specs.declared.event.Event.{Event}
use Rattle.c11_events.specs.Events.{event_at, ReadsEarlier, stored_cell, loaded_cell, is_seq_cst}
use Rattle.c11_events.specs.Values.{value_of}
use Rattle.c11_happens.specs.Trace.{Trace, textless}
use Rattle.c11_latest.specs.Notes.{Notes}
use Rattle.c11_scorder.specs.Tables as tables
use Rattle.c11_scorder.specs.Tables.{Tables, AreNoted, by_store, HasRoom, threads_of, cells_of}
use Rattle.c11_mayread.specs.declared.kept.Kept.{Kept}

-- the threads, and one more than the largest that has an event; the events without texts; the order of the seq_cst events; the stores and
-- the loads of each cell and thread; and of each event what it read, whether it is seq_cst, and what it wrote
pub record Facts : Type 0 where
  pub threads : ℕ
  pub top : ℕ
  pub happens : Trace
  pub order : Tables
  pub stores : Notes
  pub loads : Notes
  pub kept : List Kept

abbrev pub by_load : Event → Option ℕ
by_load e = loaded_cell e.kind

abbrev pub kept_of : List Event → ℕ → Event → Kept
kept_of events x e = record { from = e.from; seq_cst = is_seq_cst e.kind; value = value_of events x }

-- the facts are those of these events
pub record IsPastOf (facts : Facts) (events : List Event) : Type 0 where
  pub happens : facts.happens.events ≡ map textless events
  pub order : tables.StandsFor facts.order events
  pub stores : AreNoted by_store events facts.stores
  pub loads : AreNoted by_load events facts.loads
  pub count : length facts.kept ≡ length events
  pub kept : (place : ℕ) (e : Event) → slice_get events place ≡ Some e → slice_get facts.kept place ≡ Some (kept_of events (suc place) e)
  pub reads : ReadsEarlier events
  pub within : (a : ℕ) (e : Event) → event_at events a ≡ Some e → e.thread < facts.top
  pub least : (bound : ℕ) → ((a : ℕ) (e : Event) → event_at events a ≡ Some e → e.thread < bound) → facts.top ≤ bound

-- the further event can be noted
pub record CanNote (facts : Facts) (events : List Event) (e : Event) : Type 0 where
  pub number : e.number ≡ length events + 1
  pub room : length events < facts.happens.room
  pub thread : e.thread < facts.threads
  pub cell : (cell : ℕ) → stored_cell e.kind ≡ Some cell → cell < cells_of facts.order
  pub reads : ReadsEarlier (events ++ e ∷ [])

-- the counts of threads, cells and events are the same
pub record HaveSameCounts (old new : Facts) : Type 0 where
  pub threads : new.threads ≡ old.threads
  pub cells : cells_of new.order ≡ cells_of old.order
  pub room : new.happens.room ≡ old.happens.room

-- there is room for the events to come
pub record AreRoomy (facts : Facts) (noted : ℕ) : Type 0 where
  pub threads : facts.happens.threads ≡ facts.threads
  pub top : facts.top ≤ facts.threads
  pub order_threads : threads_of facts.order ≡ facts.threads
  pub order_room : facts.order.room ≡ facts.happens.room
  pub stores : HasRoom facts.happens.room noted facts.stores
  pub loads : HasRoom facts.happens.room noted facts.loads
  pub within : noted ≤ facts.happens.room
