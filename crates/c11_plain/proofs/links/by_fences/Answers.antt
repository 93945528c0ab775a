use Rattle.c11_plain.proofs.Filling.{if_ok, or_of, then_of}
use Rattle.c11_plain.proofs.links.by_fences.Goals as goal

pub returns : goal.returns
returns c = if_ok c.or-2.result c.or-2.ensures (λ t k. or_of c.requires.all.seq_cst
    (or_of (then_of c.requires.all.fenced c.in_ok-behind.ensures c.in_ok-fenced_read.ensures) c.requires.all.fenced c.in_ok-by_fence.ensures) k)
