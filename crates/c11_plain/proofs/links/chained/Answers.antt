use Rattle.std.proofs.Common.{rules}
use Rattle.c11_plain.specs.ChainParts.{Chained}
use Rattle.c11_plain.proofs.Filling.{made}
use Rattle.c11_plain.proofs.Ends.{chained_ends}
use Rattle.c11_plain.proofs.links.chained.Goals as goal

pub returns : goal.returns
returns c = made _ _ c.new.result (Chained c.args.events.now c.args.cell) c.new.ensures (chained_ends c.args.events.now _ c.requires.all.count c.requires.reads c.args.cell)
    (λ a b la lb t. search rules) (λ a b la lb t h. search rules)
