use Rattle.c11_plain.proofs.Filling.{if_ok, same_of, or_of}
use Rattle.c11_plain.proofs.Sequences.{reading_synchronizes, synchronizes_reading}
use Rattle.c11_plain.proofs.happens.synchronizes_with.Goals as goal

pub returns : goal.returns
returns c = if_ok c.or.result c.or.ensures (λ t k.
    same_of (or_of c.in_ok-reading.ensures c.in_ok-other.ensures k) (reading_synchronizes c.args.events.now) (synchronizes_reading c.args.events.now))
