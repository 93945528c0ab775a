use Rattle.std.proofs.Common.{◌≡◌, ◌+◌, ℕ, List, Some, refl, subst}
use Rattle.c11_events.specs.Events.{stored_cell}
use Rattle.c11_mayread.specs.Priors.{In}
use Rattle.c11_mayread.proofs.Playing.{next_op, played_next}
use Rattle.c11_mayread.proofs.Recalling.{within}
use Rattle.c11_parts.proofs.reads.read.Goals as goal

pub commit-requires-clause-next : goal.commit-requires-clause-next
commit-requires-clause-next c =
    let played = c.requires.played in
    next_op c.args.reads.now c.room.new.self c.args.count played c.room.ensures.stands c.room.ensures.same
    (record { number = c.args.count + 1; thread = c.args.thread; kind = c.reading-kind.result; from = c.args.from }) refl c.requires.room c.requires.thread
    c.args.op.now c.requires.cell c.requires.reads c.in_ok-all.all
    (λ cell is. c.in_ok-all.ensures.chain_offers played.events cell played.stands is)
    (subst (λ (l : List ℕ). In l c.args.from) c.as_slice-2.ensures (c.is_among.ensures c.if-not-is_among.false))
    (λ cell is store. c.reading-kind.ensures played.events c.args.from cell is (c.value.ensures played.events played.stands (within played.events c.args.from (λ e. stored_cell e.kind ≡ Some cell) store)))

pub returns : goal.returns
returns c =
    let played = c.requires.played in
    played_next c.args.reads.now c.room.new.self c.args.count played c.room.ensures.stands c.room.ensures.same
    (record { number = c.args.count + 1; thread = c.args.thread; kind = c.reading-kind.result; from = c.args.from }) refl c.requires.room c.requires.thread
    (next_op c.args.reads.now c.room.new.self c.args.count played c.room.ensures.stands c.room.ensures.same
    (record { number = c.args.count + 1; thread = c.args.thread; kind = c.reading-kind.result; from = c.args.from }) refl c.requires.room c.requires.thread
    c.args.op.now c.requires.cell c.requires.reads c.in_ok-all.all
    (λ cell is. c.in_ok-all.ensures.chain_offers played.events cell played.stands is)
    (subst (λ (l : List ℕ). In l c.args.from) c.as_slice-2.ensures (c.is_among.ensures c.if-not-is_among.false))
    (λ cell is store. c.reading-kind.ensures played.events c.args.from cell is (c.value.ensures played.events played.stands (within played.events c.args.from (λ e. stored_cell e.kind ≡ Some cell) store))))
    c.commit.new.self c.commit.ensures.stands c.commit.ensures.same
