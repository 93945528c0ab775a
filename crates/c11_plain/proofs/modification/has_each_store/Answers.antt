use Rattle.std.proofs.Common.{rules}
use Rattle.std.proofs.lemmas.Option.{slice_get_within}
use Rattle.c11_plain.specs.Orders.{HasIfStore}
use Rattle.c11_plain.proofs.Ends.{below}
use Rattle.c11_plain.proofs.Filling.{each_of}
use Rattle.c11_plain.proofs.modification.has_each_store.Goals as goal

pub returns : goal.returns
returns c =
    let e = each_of c.some_below.result c.args.count _ (HasIfStore c.args.events.now c.args.cell c.args.order.now) c.some_below.ensures
    (λ k lt t. search rules) (λ k lt t g. search rules) in (
      λ h x s. let t = (e.0 h x (below c.args.events.now c.args.count c.requires s)).stands s in (t.0, t.1.1),
      λ f. e.1 (λ x lt. record { stands = λ s. let t = f x s in (t.0, (slice_get_within c.args.order.now t.0 x t.1, t.1)) }),
    )
