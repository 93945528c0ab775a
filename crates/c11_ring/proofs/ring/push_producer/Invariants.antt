use Rattle.std.proofs.Common.{◌≡◌, ◌++◌}
use Rattle.c11_ring.specs.Ring.{packets_from, sent_text}
use Rattle.c11_ring.proofs.ring.push_producer.Given as goal

abbrev pub invariant-loop-packet : goal.invariant-loop-packet
invariant-loop-packet l = l.text.items ≡ l.initial.text.items ++ packets_from 0 l.packet (sent_text l.number)
