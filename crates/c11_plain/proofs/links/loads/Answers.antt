use Rattle.std.proofs.Common.{rules}
use Rattle.c11_events.specs.Events.{IsLoad}
use Rattle.c11_plain.proofs.Filling.{made}
use Rattle.c11_plain.proofs.Ends.{load_ends}
use Rattle.c11_plain.proofs.links.loads.Goals as goal

pub returns : goal.returns
returns c = made _ _ c.new.result (IsLoad c.args.events.now c.args.cell) c.new.ensures (load_ends c.args.events.now _ c.requires.all.count c.requires.reads c.args.cell)
    (λ a b la lb t. search rules) (λ a b la lb t h. search rules)
