use Rattle.c11_plain.proofs.Filling.{if_ok, same_of, then_of, kept_of}
use Rattle.c11_plain.proofs.FenceWays.{after_way, way_after}
use Rattle.c11_plain.proofs.fences.fenced_after.Goals as goal

pub returns : goal.returns
returns c =
    let events = c.args.events.now in
    let to_fence = kept_of c.in_ok-thread.ensures c.in_ok-to_fence.ensures in
    if_ok c.then.result c.then.ensures (λ t k. same_of (then_of to_fence c.in_ok-order.ensures k) (after_way events) (way_after events))
