use Rattle.std.proofs.Common.{rules, ◌⊎◌, inl, inr}
use Rattle.c11_plain.specs.Pairs.{Holds}
use Rattle.c11_plain.proofs.Filling.{made}
use Rattle.c11_plain.proofs.pairs.Pairs.through.Goals as goal

pub returns : goal.returns
returns c = made c.args.self.now.count _ c.new.result (λ a b. Holds c.args.self.now a b ⊎ (Holds c.args.self.now a c.args.k × Holds c.args.self.now c.args.k b)) c.new.ensures
    (λ a b h. elim h [ inl l ↦ (l.first, l.second) | inr r ↦ (r.0.first, r.1.second) ])
    (λ a b la lb t. search rules)
    (λ a b la lb t h. search rules)
