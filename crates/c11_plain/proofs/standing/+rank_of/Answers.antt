use Rattle.std.proofs.Common.{◌≡◌, None, Some, refl, arith}
use Rattle.c11_plain.proofs.ChainPlaces.{rank_head, rank_next}
use Rattle.c11_plain.proofs.standing.+rank_of.Goals as goal

pub rank_of-requires : goal.rank_of-requires
rank_of-requires t c =
    let read = c.requires c.args.cell c.args.x c.in-Some.y ((c.in-Some.ensures c.in-Some.y).0 refl) in
    (omega (arith, read.1), c.requires)

pub overflow_add-result : goal.overflow_add-result
overflow_add-result t c =
    let read = c.requires c.args.cell c.args.x c.in-Some.y ((c.in-Some.ensures c.in-Some.y).0 refl) in
    omega (arith, read.1, c.in-Some-rank_of.ensures.within)

pub returns-in-Some-rank_of : goal.returns-in-Some-rank_of
returns-in-Some-rank_of t c =
    let load = (c.in-Some.ensures c.in-Some.y).0 refl in
    let read = c.requires c.args.cell c.args.x c.in-Some.y load in
    let has = c.in-Some-rank_of.ensures in
    let store = c.is_store.ensures.0 c.if-not-is_store.false in
    record {
      ranked = rank_next c.args.events.now c.args.cell c.in-Some-rank_of.before.head c.in-Some-rank_of.before.rank c.in-Some.y c.args.x has.ranked store load;
      within = omega (arith, read.1, has.within);
    }

pub returns-in-None-rank_of : goal.returns-in-None-rank_of
returns-in-None-rank_of t c = λ s. c.in-None-rank_of.ensures (c.requires c.args.cell c.args.x c.in-Some.y ((c.in-Some.ensures c.in-Some.y).0 refl)).0

pub returns-in-None : goal.returns-in-None
returns-in-None t c = record {
  ranked = rank_head c.args.events.now c.args.cell c.args.x (c.is_store.ensures.0 c.if-not-is_store.false) (λ z l. let e : None ≡ Some z = (c.in-None.ensures z).1 l in cc);
  within = omega arith;
}
