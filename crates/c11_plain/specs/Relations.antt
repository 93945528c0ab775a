-- The relations that the rules speak of.
use Rattle.std.specs.Prelude.{◌≡◌, ◌+◌, List, length}
use Rattle.c11_events.specs.declared.event.Event.{Event}
use Rattle.c11_events.specs.HappensBefore.{HappensBefore, SeqCstBefore}
use Rattle.c11_events.specs.Lawful.{IsFencedBefore, IsFencedAfter, IsFencedBetween, Fenced}
use Rattle.c11_plain.specs.declared.relations.Relations.{Relations}
use Rattle.c11_plain.specs.Pairs.{IsTableOf}

-- each is the table of its relation
pub record AreRelations (events : List Event) (r : Relations) : Type 0 where
  pub count : r.count ≡ length events + 1
  pub before : IsTableOf r.before (HappensBefore events)
  pub seq_cst : IsTableOf r.seq_cst (SeqCstBefore events)
  pub fence_before : IsTableOf r.fence_before (IsFencedBefore events)
  pub fence_after : IsTableOf r.fence_after (IsFencedAfter events)
  pub fence_between : IsTableOf r.fence_between (IsFencedBetween events)
  pub fenced : IsTableOf r.fenced (Fenced events)
