use Rattle.std.proofs.Common.{ℕ, List, sym, subst, false}
use Rattle.c11_mayread.proofs.Ordering.{Lists, load_links}
use Rattle.c11_mayread.proofs.linking.link_load.Goals as goal

pub returns-clause-linked : goal.returns-clause-linked
returns-clause-linked c = load_links c.args.past.now c.args.event.now c.args.cell c.is_seq_cst.result c.is_seq_cst.ensures c.as_slice.result.now c.args.graph.now c.order.new.self
    (subst (λ (l : List ℕ). Lists c.args.past.now c.args.event.now c.args.cell c.is_seq_cst.result false l) (sym c.as_slice.ensures.value) c.list_priors.ensures.priors) c.order.ensures.stands
