use Rattle.std.proofs.Common.{rules, length}
use Rattle.std.proofs.lemmas.Option.{slice_get_within}
use Rattle.c11_plain.specs.Orders.{IsStoreAt}
use Rattle.c11_plain.proofs.Filling.{each_of}
use Rattle.c11_plain.proofs.modification.has_only_stores.Goals as goal

pub returns : goal.returns
returns c =
    let e = each_of c.some_place.result (length c.args.order.now) _ (IsStoreAt c.args.events.now c.args.cell c.args.order.now) c.some_place.ensures
    (λ k lt t. search rules) (λ k lt t g. search rules) in (
      λ h x i at. (e.0 h i (slice_get_within c.args.order.now i x at)).is x at,
      λ f. e.1 (λ i lt. record { is = λ x at. f x i at }),
    )
