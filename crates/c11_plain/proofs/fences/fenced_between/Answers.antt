use Rattle.c11_plain.proofs.Filling.{if_ok, same_of, then_of, kept_of}
use Rattle.c11_plain.proofs.FenceWays.{between_way, way_between}
use Rattle.c11_plain.proofs.fences.fenced_between.Goals as goal

pub returns : goal.returns
returns c =
    let events = c.args.events.now in
    let first = kept_of c.in_ok-thread.ensures c.in_ok-to_first.ensures in
    let next = kept_of c.in_ok-order.ensures c.in_ok-to_next.ensures in
    if_ok c.then-2.result c.then-2.ensures (λ t k. same_of (then_of (then_of first next c.in_ok-to_second.ensures) c.in_ok-thread.ensures k) (between_way events) (way_between events))
