use Rattle.std.proofs.Common.{rules, ◌≡◌}
use Rattle.c11_plain.proofs.Filling.{if_ok, then_of, same_of, selected, closure_of}
use Rattle.c11_plain.proofs.Causes.{link_of, of_link}
use Rattle.c11_plain.proofs.links.links.Goals as goal

pub returns : goal.returns
returns c =
    let way = then_of (then_of c.in_ok-chain.ensures c.in_ok-must.ensures c.in_ok-to_store.ensures) c.in_ok-back.ensures c.in_ok-to_chain.ensures in
    let link = same_of (selected _ c.in_ok-link.link _ _ (λ h k. h ≡ k → ⊥) c.in_ok-link.ensures way (λ a b h u. search rules) (λ a b h u p. search rules))
    (link_of c.args.events.now c.args.cell) (of_link c.args.events.now c.args.cell) in
    if_ok c.closure.result c.closure.ensures (λ t k. closure_of link k)
