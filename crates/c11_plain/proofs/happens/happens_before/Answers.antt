use Rattle.c11_plain.proofs.Filling.{if_ok, or_of, closure_of}
use Rattle.c11_plain.proofs.happens.happens_before.Goals as goal

pub returns : goal.returns
returns c = if_ok c.closure.result c.closure.ensures (λ t k. closure_of (or_of c.in_ok-order.ensures c.in_ok-synchronized.ensures c.in_ok-direct.ensures) k)
