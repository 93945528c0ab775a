use Rattle.std.proofs.Common.{rules, arith}
use Rattle.c11_plain.specs.Pairs.{Holds}
use Rattle.c11_plain.proofs.Filling.{table_of}
use Rattle.c11_plain.proofs.Ways.{way_next, way_last}
use Rattle.c11_plain.proofs.pairs.Pairs.closure.Goals as goal

pub loop-k-init : goal.loop-k-init
loop-k-init c = table_of c.args.self.now.count _ c.in_ok-ways.ways (Holds c.args.self.now) c.in_ok-ways.ensures (λ a b h. (h.first, h.second))
    (λ a b la lb t. search rules) (λ a b la lb t h. search rules)

pub loop-k-preserved : goal.loop-k-preserved
loop-k-preserved c = way_next (Holds c.args.self.now) c.loop-k.ways c.in_ok-ways-2.ways c.loop-k.k c.loop-k.invariant c.in_ok-ways-2.ensures

pub returns : goal.returns
returns c = way_last c.args.self.now c.loop-k.ways c.loop-k.k (omega arith) c.loop-k.invariant
