use Rattle.c11_ring.proofs.RingAccepted.{ring_is_accepted}
use Rattle.c11_ring.proofs.laws.ring_is_accepted.Goals as goal

pub returns : goal.returns
returns c = ring_is_accepted
