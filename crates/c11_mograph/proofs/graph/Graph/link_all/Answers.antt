use Rattle.c11_mograph.proofs.Linked.{none_linked, head_of, linked_spread, linked_still}
use Rattle.c11_mograph.proofs.graph.Graph.link_all.Goals as goal

pub returns-in_default-clause-tracks : goal.returns-in_default-clause-tracks
returns-in_default-clause-tracks c = λ made tracks leads_on one_cell ordered. none_linked _ made _ _ tracks c.in_default.ensures.none one_cell

pub returns-then-gather-clause-tracks : goal.returns-then-gather-clause-tracks
returns-then-gather-clause-tracks c = λ made tracks leads_on one_cell ordered.
    let head = head_of c.args.self.now made tracks c.in-Some.place c.args.x c.kept_at-head.result c.in-Some.ensures.some c.kept_at-head.ensures.kept in
    linked_spread _ _ made tracks _ _ _ head.0 _ head.1 leads_on (c.gather.ensures.gathers made c.args.x head.0 tracks head.1 one_cell ordered) _ c.spread_from.ensures

pub returns-else-gather-clause-tracks : goal.returns-else-gather-clause-tracks
returns-else-gather-clause-tracks c = λ made tracks leads_on one_cell ordered.
    let head = head_of c.args.self.now made tracks c.in-Some.place c.args.x c.kept_at-head.result c.in-Some.ensures.some c.kept_at-head.ensures.kept in
    linked_still _ _ made tracks _ _ _ head.0 _ head.1 leads_on (c.gather.ensures.gathers made c.args.x head.0 tracks head.1 one_cell ordered) c.if-gather.false
