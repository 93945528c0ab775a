use Rattle.std.proofs.Common.{◌+◌, refl}
use Rattle.c11_mayread.proofs.Playing.{next_other, played_next}
use Rattle.c11_parts.proofs.reads.other.Goals as goal

pub commit-requires-clause-next : goal.commit-requires-clause-next
commit-requires-clause-next c = next_other c.args.reads.now c.room.new.self c.args.count c.requires.played c.room.ensures.stands c.room.ensures.same
    (record { number = c.args.count + 1; thread = c.args.thread; kind = c.args.kind; from = 0 }) refl c.requires.room c.requires.thread c.requires.loads c.requires.stores

pub returns : goal.returns
returns c = played_next c.args.reads.now c.room.new.self c.args.count c.requires.played c.room.ensures.stands c.room.ensures.same
    (record { number = c.args.count + 1; thread = c.args.thread; kind = c.args.kind; from = 0 }) refl c.requires.room c.requires.thread
    (next_other c.args.reads.now c.room.new.self c.args.count c.requires.played c.room.ensures.stands c.room.ensures.same
    (record { number = c.args.count + 1; thread = c.args.thread; kind = c.args.kind; from = 0 }) refl c.requires.room c.requires.thread c.requires.loads c.requires.stores)
    c.commit.new.self c.commit.ensures.stands c.commit.ensures.same
