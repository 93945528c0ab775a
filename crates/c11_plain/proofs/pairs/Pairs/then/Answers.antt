use Rattle.std.proofs.Common.{rules, arith}
use Rattle.c11_plain.specs.Pairs.{Holds}
use Rattle.c11_plain.specs.Parts.{Joined}
use Rattle.c11_plain.proofs.Filling.{made}
use Rattle.c11_plain.proofs.pairs.Pairs.then.Goals as goal

pub returns : goal.returns
returns c = made c.max.result _ c.new.result (Joined (Holds c.args.self.now) (Holds c.args.other.now)) c.new.ensures
    (λ a b h. (omega (arith, h.1.0.first), omega (arith, h.1.1.second)))
    (λ a b la lb t. search rules)
    (λ a b la lb t h. search rules)
