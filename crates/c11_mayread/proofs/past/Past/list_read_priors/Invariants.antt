use Rattle.std.proofs.Common.{◌*◌, ◌≤◌, List, length, vec_capacity}
use Rattle.c11_events.specs.declared.event.Event.{Event}
use Rattle.c11_mayread.specs.Facts.{IsPastOf}
use Rattle.c11_mayread.specs.Priors.{IsNextOf}
use Rattle.c11_mayread.proofs.Listing.{PriorsBelow}
use Rattle.c11_mayread.proofs.past.Past.list_read_priors.Given as goal

abbrev pub invariant-loop-of : goal.invariant-loop-of
invariant-loop-of l = record {
  count : length l.priors.items ≤ 4 * l.of;
  capacity : vec_capacity l.fn.priors ≤ vec_capacity l.priors;
  below : (events : List Event) (e : Event) → IsPastOf l.self events → IsNextOf l.thread l.seq_cst e → PriorsBelow events e l.cell l.of l.priors.items;
}
