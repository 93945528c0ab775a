use Rattle.std.proofs.Common.{rules}
use Rattle.c11_plain.specs.ChainParts.{IsLoneBelow}
use Rattle.c11_plain.proofs.Ends.{below}
use Rattle.c11_plain.proofs.Filling.{each_of}
use Rattle.c11_plain.proofs.standing.are_lone.Goals as goal

pub returns : goal.returns
returns c =
    let e = each_of c.some_below.result c.args.count _ (IsLoneBelow c.args.events.now c.args.cell c.args.count) c.some_below.ensures
    (λ k lt t. search rules) (λ k lt t g. search rules) in (
      λ h b k x r s. ((e.0 h b (below c.args.events.now c.args.count c.requires r)).each k (below c.args.events.now c.args.count c.requires s)).one x r s,
      λ f. e.1 (λ b lt. record { each = λ k less. record { one = f b k } }),
    )
