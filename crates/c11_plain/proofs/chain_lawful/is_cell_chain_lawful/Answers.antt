use Rattle.c11_plain.proofs.chain_lawful.is_cell_chain_lawful.Goals as goal

pub returns : goal.returns
returns c = (
  λ h. record {
    acyclic = c.in_ok-acyclic.ensures.0 c.if-not-acyclic.false;
    ranked = c.in_ok-ranked.ensures.0 c.if-not-ranked.false;
    once = c.are_lone.ensures.0 c.if-not-are_lone.false;
    seq_cst_read = c.seq_cst_reads.ensures.0 h;
  },
  λ l. c.seq_cst_reads.ensures.1 l.seq_cst_read,
)
