-- The fields, and that they stand for some events.
use Rattle.std.specs.Prelude.{◌≤◌, List, length, vec_capacity}
use Rattle.c11_events.specs.declared.event.Event.{Event}
use Rattle.c11_mayread.specs.declared.past.Past.TheInside as past
use Rattle.c11_mayread.specs.Facts.{Facts, IsPastOf, AreRoomy}

abbrev pub facts_of : past.Inside → Facts
facts_of p = record { threads = p.threads; top = p.top; happens = p.happens; order = p.order; stores = p.stores; loads = p.loads; kept = p.kept.items }

pub record IsSoundPast (p : past.Inside) : Type 0 where
  pub events : List Event
  pub stands : IsPastOf (facts_of p) events
  pub roomy : AreRoomy (facts_of p) (length p.kept.items)
  pub kept_fit : p.happens.room ≤ vec_capacity p.kept
