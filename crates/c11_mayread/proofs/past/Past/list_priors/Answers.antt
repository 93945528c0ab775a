use Rattle.std.proofs.Common.{ℕ, List, sym, subst, ◌∙◌}
use Rattle.c11_mayread.specs.Priors.{ArePriors}
use Rattle.c11_mayread.proofs.Listing.{all_priors, both_true, not_both}
use Rattle.c11_mayread.proofs.past.Past.list_priors.Goals as goal

pub returns-clause-priors : goal.returns-clause-priors
returns-clause-priors c = λ events e past next.
    subst (λ (l : List ℕ). ArePriors events e c.args.cell c.args.stores l) (sym c.put_some.ensures.items)
    (all_priors c.last_store_stands_for_all.ensures events e c.args.cell c.args.stores c.list_read_priors.new.priors.items c.last_store_if.result
    (λ sc st. c.last_store_if.ensures.asked events past (c.both.ensures ∙ both_true c.args.seq_cst c.args.stores (sym next.seq_cst ∙ sc) st))
    (λ n. c.last_store_if.ensures.none (c.both.ensures ∙ not_both c.args.seq_cst c.args.stores (λ sc st. n (next.seq_cst ∙ sc) st)))
    (c.list_read_priors.ensures.priors events e past next))
