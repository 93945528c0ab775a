-- The fields of what is kept with the graph, and that they stand for some events.
use Rattle.std.specs.Prelude.{◌≤◌, ◌*◌, ◌+◌, List, vec_capacity}
use Rattle.c11_events.specs.declared.event.Event.{Event}
use Rattle.c11_mayread.specs.declared.reads.Reads.TheInside as reads
use Rattle.c11_mayread.specs.Standing.{Words, StandsFor, AreFitting}

abbrev pub words_of : reads.Inside → Words
words_of r = record { past = r.past; graph = r.graph }

pub record IsSoundReads (r : reads.Inside) : Type 0 where
  pub events : List Event
  pub stands : StandsFor (words_of r) events
  pub fitting : AreFitting (words_of r)
  pub priors_fit : 4 * r.past.threads + 1 ≤ vec_capacity r.priors
