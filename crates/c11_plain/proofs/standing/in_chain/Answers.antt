use Rattle.std.proofs.lemmas.Bool.{eqb-true, eq-eqb}
use Rattle.c11_plain.proofs.ChainPlaces.{chain_test}
use Rattle.c11_plain.proofs.standing.in_chain.Goals as goal

pub returns-in-Some : goal.returns-in-Some
returns-in-Some c = chain_test c.args.events.now c.args.cell c.args.x c.args.h c.in-Some.rank _ c.in-Some.ensures
    (eqb-true c.in-Some.rank.head c.args.h, eq-eqb c.in-Some.rank.head c.args.h)
