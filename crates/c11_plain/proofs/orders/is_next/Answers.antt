use Rattle.std.proofs.Common.{rules, length}
use Rattle.std.proofs.lemmas.Option.{slice_get_within}
use Rattle.c11_plain.proofs.Filling.{some_of}
use Rattle.c11_plain.proofs.Places.{NextAt, next_at, at_next}
use Rattle.c11_plain.proofs.orders.is_next.Goals as goal

pub returns : goal.returns
returns c =
    let order = c.args.order.now in
    let e = some_of c.some_place.result (length order) _ (NextAt order c.args.x c.args.y) c.some_place.ensures
    (λ k h. slice_get_within order k c.args.y h.1.1) (λ k lt t. search rules) (λ k lt t h. search rules) in
    (λ h. next_at order c.args.x c.args.y (e.0 h), λ p. e.1 (at_next order c.args.x c.args.y p))
