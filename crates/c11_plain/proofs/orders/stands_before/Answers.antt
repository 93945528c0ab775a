use Rattle.std.proofs.Common.{rules, ◌≡◌, Some, slice_get}
use Rattle.c11_plain.proofs.Filling.{found_below}
use Rattle.c11_plain.proofs.orders.stands_before.Goals as goal

pub returns : goal.returns
returns c = found_below c.some_place.result c.args.place _ (λ i. slice_get c.args.order.now i ≡ Some c.args.x) c.some_place.ensures
    (λ k lt t. search rules) (λ k lt t h. search rules)
