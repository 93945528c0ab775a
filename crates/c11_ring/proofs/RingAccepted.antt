-- A ring's text is accepted.
use Rattle.c11_parser.specs.Sorting.{lexemes}
use Rattle.c11_ring.specs.Ring.{ring_bytes}
use Rattle.c11_ring.specs.Laws.{RingIsAccepted}
use Rattle.c11_ring.proofs.RingLength.{ring_short}
use Rattle.c11_ring.proofs.RingTokens.{ring_tokens}
use Rattle.c11_ring.proofs.FaultlessRings.{ring_stands}

pub ring_is_accepted : RingIsAccepted
ring_is_accepted number size some small =
    let found = ring_tokens number size some small in
    let stands = ring_stands number size (lexemes (ring_bytes number size) found.0) found.2 in (
      record { items = stands.items },
      record { short = ring_short number size some small; tokens = found.0; scan = found.1; tree = stands.tree; faultless = stands.faultless },
    )
