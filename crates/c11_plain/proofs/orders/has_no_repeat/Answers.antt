use Rattle.std.proofs.Common.{rules, length}
use Rattle.c11_plain.proofs.Filling.{none_of}
use Rattle.c11_plain.proofs.Places.{Repeats, no_repeats, repeats_no}
use Rattle.c11_plain.proofs.orders.has_no_repeat.Goals as goal

pub returns : goal.returns
returns c =
    let order = c.args.order.now in
    let e = none_of c.some_place.result (length order) _ (Repeats order) c.some_place.ensures (λ k lt t. search rules) (λ k lt t h. search rules) in
    (λ h. no_repeats order (e.0 h), λ p. e.1 (repeats_no order p))
