use Rattle.c11_mograph.proofs.Found.{tracks_of, stands_with}
use Rattle.c11_mograph.proofs.Owning.{own_more}
use Rattle.c11_mograph.proofs.graph.Graph.order.Goals as goal

pub returns-clause-stands : goal.returns-clause-stands
returns-clause-stands c = λ made stands one_cell ordered.
    stands_with _ _ (c.link_all.ensures.tracks made (tracks_of _ made stands) (λ h i chain. stands.own h) one_cell ordered) (own_more made c.args.prior.now c.args.x stands.own)
