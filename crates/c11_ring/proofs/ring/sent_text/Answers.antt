use Rattle.std.proofs.Common.{append_assoc}
use Rattle.c11_ring.proofs.ring.sent_text.Goals as goal

pub returns : goal.returns
returns c = rw (← c.place_of-place.ensures, ← c.value_of-value.ensures, ← c.order_word-order.ensures, ← c.places-places.ensures) (simp append_assoc at c.format.ensures.ok)
