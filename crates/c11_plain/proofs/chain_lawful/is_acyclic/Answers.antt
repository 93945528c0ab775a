use Rattle.std.proofs.Common.{rules, ◌≡◌, refl, subst, sym, ℕ}
use Rattle.c11_events.specs.Chains.{Links}
use Rattle.c11_plain.proofs.Filling.{all_of}
use Rattle.c11_plain.proofs.chain_lawful.is_acyclic.Goals as goal

pub returns : goal.returns
returns c =
    let t = c.in_ok-link.ensures in
    let e = all_of c.all.result c.in_ok-link.link _ (λ h k. h ≡ k → ⊥) c.all.ensures (λ a b h u. search rules) (λ a b h u g. search rules) in (
      λ h k l. e.0 h k k (t.complete k k l) refl,
      λ f. e.1 (λ h k holds same. f h (subst (λ (z : ℕ). Links c.args.events.now c.args.cell h z) (sym same) (t.sound h k holds))),
    )
