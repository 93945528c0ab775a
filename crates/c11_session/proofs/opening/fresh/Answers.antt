use Rattle.c11_session.proofs.Fresh.{fresh_is, fresh_seated}
use Rattle.c11_session.proofs.opening.fresh.Goals as goal

pub invariant_of-result : goal.invariant_of-result
invariant_of-result c = fresh_seated c.args.chair c.args.terms c.start.result c.args.number c.requires.view c.start.ensures.stands c.start.ensures.number c.requires.number c.requires.follows

pub returns : goal.returns
returns c = fresh_is c.args.chair c.args.terms c.start.result c.args.number c.requires.view c.start.ensures.stands c.start.ensures.number c.requires.number c.requires.follows
