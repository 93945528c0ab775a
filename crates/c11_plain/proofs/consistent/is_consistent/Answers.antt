use Rattle.std.proofs.Common.{refl, arith}
use Rattle.std.proofs.lemmas.Option.{slice_get_read}
use Rattle.c11_plain.proofs.Numbers.{apart}
use Rattle.c11_plain.proofs.Extending.{consistent_of, orders_of, orders_next}
use Rattle.c11_plain.proofs.consistent.is_consistent.Goals as goal

pub returns-then-not-branch : goal.returns-then-not-branch
returns-then-not-branch c = (λ h. cc, λ k. absurd (apart c.if-not-branch.true (c.in_ok-has_order_of.ensures.1 (orders_of c.args.events.now k _))))

pub loop-event-preserved : goal.loop-event-preserved
loop-event-preserved c =
    let at = slice_get_read c.args.events.now _ c.loop-event.event-index c.event-item.result refl (omega arith) c.event-item.is in
    orders_next c.args.events.now c.loop-event.event-index c.event-item.result at (c.in_ok-has_order_of.ensures.0 c.if-not-branch.false) c.loop-event.invariant

pub returns : goal.returns
returns c = (λ _. consistent_of c.args.events.now (c.reads_earlier.ensures.0 c.if-not-reads_earlier.false) c.loop-event.event-index (omega arith) c.loop-event.invariant, λ _. refl)
