use Rattle.std.proofs.Common.{arith}
use Rattle.c11_plain.specs.Pairs.{Holds}
use Rattle.c11_plain.proofs.Filling.{next_row}
use Rattle.c11_plain.proofs.pairs.Pairs.all.Goals as goal

pub loop-a-preserved : goal.loop-a-preserved
loop-a-preserved g c = next_row (Holds c.args.self.now) _ c.loop-a.a c.loop-a.invariant
    (λ b h. c.loop-b.invariant b (omega (arith, h.second, c.loop-b-test.false)) h)
