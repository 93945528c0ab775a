use Rattle.c11_session.proofs.Working.{may_advance}
use Rattle.c11_session.proofs.place.Place.advance.Goals as goal

pub advance-requires : goal.advance-requires
advance-requires c = may_advance c.args.self.now c.requires.seated c.asks_until_over.ensures c.asks_where_wanted.ensures c.args.code.now c.requires.code c.if-self.false
