use Rattle.std.proofs.Common.{rules, ◌⊎◌, arith, inl, inr}
use Rattle.c11_plain.specs.Pairs.{Holds}
use Rattle.c11_plain.proofs.Filling.{made}
use Rattle.c11_plain.proofs.pairs.Pairs.or.Goals as goal

pub returns : goal.returns
returns c = made c.max.result _ c.new.result (λ a b. Holds c.args.self.now a b ⊎ Holds c.args.other.now a b) c.new.ensures
    (λ a b h. elim h [ inl l ↦ (omega (arith, l.first), omega (arith, l.second)) | inr r ↦ (omega (arith, r.first), omega (arith, r.second)) ])
    (λ a b la lb t. search rules)
    (λ a b la lb t h. search rules)
