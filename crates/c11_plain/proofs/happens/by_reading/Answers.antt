use Rattle.c11_plain.proofs.Filling.{if_ok, or_of}
use Rattle.c11_plain.proofs.happens.by_reading.Goals as goal

pub returns : goal.returns
returns c = if_ok c.or-3.result c.or-3.ensures (λ t k. or_of
    (or_of c.in_ok-store_load.ensures c.in_ok-fence_load.ensures c.in_ok-to_load.ensures)
    (or_of c.in_ok-store_fence.ensures c.in_ok-fence_fence.ensures c.in_ok-to_fence.ensures) k)
