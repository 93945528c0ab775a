use Rattle.std.proofs.Common.{rules}
use Rattle.c11_plain.specs.ChainParts.{Loaded}
use Rattle.c11_plain.proofs.Filling.{made}
use Rattle.c11_plain.proofs.Ends.{loaded_ends}
use Rattle.c11_plain.proofs.links.loaded.Goals as goal

pub returns : goal.returns
returns c = made _ _ c.new.result (Loaded c.args.events.now c.args.cell) c.new.ensures (loaded_ends c.args.events.now _ c.requires.all.count c.requires.reads c.args.cell)
    (λ a b la lb t. search rules) (λ a b la lb t h. search rules)
