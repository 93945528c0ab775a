use Rattle.std.proofs.Common.{rules}
use Rattle.c11_plain.specs.ChainParts.{InChain}
use Rattle.c11_plain.proofs.Filling.{made}
use Rattle.c11_plain.proofs.Ends.{chain_ends}
use Rattle.c11_plain.proofs.links.chains.Goals as goal

pub returns : goal.returns
returns c = made _ _ c.new.result (InChain c.args.events.now c.args.cell) c.new.ensures (chain_ends c.args.events.now _ c.requires.all.count c.requires.reads c.args.cell)
    (λ a b la lb t. search rules) (λ a b la lb t h. search rules)
