use Rattle.c11_session.proofs.Ending.{finish_stopped, may_stop}
use Rattle.c11_session.proofs.place.Place.end_stopped.Goals as goal

pub end_for_good-requires-clause-may : goal.end_for_good-requires-clause-may
end_for_good-requires-clause-may c = may_stop c.requires.played

pub returns : goal.returns
returns c = finish_stopped c.requires.played c.end_for_good.new.chair c.end_for_good.ensures.ended c.end_for_good.ensures.table
