use Rattle.c11_session.proofs.Ending.{finish_blocked, may_wait}
use Rattle.c11_session.proofs.place.Place.end_blocked.Goals as goal

pub end_waiting-requires-clause-may : goal.end_waiting-requires-clause-may
end_waiting-requires-clause-may c = may_wait c.requires.played

pub returns : goal.returns
returns c =
    finish_blocked c.requires.played c.end_waiting.new.chair c.end_waiting.ensures.ended c.end_waiting.ensures.table
