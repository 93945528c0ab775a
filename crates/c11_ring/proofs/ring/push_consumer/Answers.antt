use Rattle.std.proofs.Common.{arith}
use Rattle.c11_ring.specs.Ring.{taken_text}
use Rattle.c11_ring.proofs.Packets.{joined}
use Rattle.c11_ring.proofs.ring.push_consumer.Goals as goal

pub returns : goal.returns
returns c = joined (taken_text c.args.number) _ _ _ _ _ _ c.loop-packet.packet c.args.size c.in_ok-extend_from_slice.ensures.items c.loop-packet.invariant
    c.in_ok-extend_from_slice-2.ensures.items (omega arith)
