use Rattle.std.proofs.Common.{rules, arith}
use Rattle.c11_plain.specs.Pairs.{Holds}
use Rattle.c11_plain.proofs.Filling.{some_of}
use Rattle.c11_plain.proofs.pairs.Pairs.meets.Goals as goal

pub returns : goal.returns
returns c = some_of c.some_below.result _ _ (λ k. Holds c.args.self.now c.args.a k × Holds c.args.other.now k c.args.b) c.some_below.ensures
    (λ k h. omega (arith, h.0.second))
    (λ k lt t. search rules)
    (λ k lt t h. search rules)
