use Rattle.std.proofs.Common.{rules}
use Rattle.c11_plain.specs.ChainParts.{AreTwoStores}
use Rattle.c11_plain.proofs.Filling.{if_ok, or_of, same_of, selected}
use Rattle.c11_plain.proofs.Causes.{must_of, of_must}
use Rattle.c11_plain.proofs.links.must_precede.Goals as goal

pub returns : goal.returns
returns c = if_ok c.only.result c.only.ensures (λ t k. same_of
    (selected _ t _ _ (AreTwoStores c.args.events.now c.args.cell) k (or_of c.in_ok-order.ensures c.in_ok-fence.ensures c.in_ok-cause.ensures)
    (λ a b h u. search rules) (λ a b h u p. search rules))
    (must_of c.args.events.now c.args.cell) (of_must c.args.events.now c.args.cell))
