use Rattle.std.proofs.Common.{rules}
use Rattle.c11_plain.specs.ChainParts.{KeepsRank}
use Rattle.c11_plain.proofs.Filling.{all_of}
use Rattle.c11_plain.proofs.chain_lawful.keeps_ranks.Goals as goal

pub returns : goal.returns
returns c =
    let t = c.in_ok-must.ensures in
    let e = all_of c.all.result c.in_ok-must.must _ (KeepsRank c.args.events.now c.args.cell) c.all.ensures (λ a b h u. search rules) (λ a b h u g. search rules) in (
      λ h a b head i j m. (e.0 h a b (t.complete a b m)).keeps head i j,
      λ f. e.1 (λ a b holds. record { keeps = λ head i j. f a b head i j (t.sound a b holds) }),
    )
