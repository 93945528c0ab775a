use Rattle.std.proofs.Common.{rules}
use Rattle.c11_plain.specs.ChainParts.{IsLone}
use Rattle.c11_plain.proofs.Filling.{each_of}
use Rattle.c11_plain.proofs.standing.is_lone_below.Goals as goal

pub returns : goal.returns
returns c =
    let e = each_of c.some_below.result c.args.count _ (IsLone c.args.events.now c.args.cell c.args.b) c.some_below.ensures
    (λ k lt t. search rules) (λ k lt t g. search rules) in
    (λ h. record { each = e.0 h }, λ g. e.1 g.each)
