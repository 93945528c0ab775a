use Rattle.std.proofs.Common.{rules}
use Rattle.c11_plain.proofs.Filling.{selects}
use Rattle.c11_plain.proofs.pairs.Pairs.only.Goals as goal

pub returns : goal.returns
returns g c = selects c.args.self.now _ _ c.new.result c.new.ensures (λ a b la lb t. search rules) (λ a b la lb t h. search rules)
