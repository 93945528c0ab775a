use Rattle.std.proofs.Common.{ℕ, List, Bool, false, sym, subst}
use Rattle.c11_mayread.specs.Listed.{PriorReads}
use Rattle.c11_mayread.specs.Priors.{ListsPriors}
use Rattle.c11_mayread.proofs.Prior.{prior_reads}
use Rattle.c11_mayread.proofs.reads.Reads.prior_read.Goals as goal

pub returns-clause-priors : goal.returns-clause-priors
returns-clause-priors c = λ events stands.
    subst (λ (b : Bool). ListsPriors events c.args.thread c.args.cell b false c.new.result) c.is_seq_cst.ensures
    (subst (λ (l : List ℕ). ListsPriors events c.args.thread c.args.cell c.is_seq_cst.result false l) (sym c.new.ensures) (c.in_ok-priors.ensures events stands))

pub returns-clause-decides : goal.returns-clause-decides
returns-clause-decides c = λ events stands.
    subst (λ (b : Bool). PriorReads events c.args.thread c.args.cell b c.new.result) c.is_seq_cst.ensures
    (subst (λ (l : List ℕ). PriorReads events c.args.thread c.args.cell c.is_seq_cst.result l) (sym c.new.ensures)
    (prior_reads events stands.lawful c.args.cell c.args.thread c.is_seq_cst.result _ (c.in_ok-priors.ensures events stands)))
