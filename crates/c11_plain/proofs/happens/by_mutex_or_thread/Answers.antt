use Rattle.c11_plain.proofs.Filling.{if_ok, or_of}
use Rattle.c11_plain.proofs.happens.by_mutex_or_thread.Goals as goal

pub returns : goal.returns
returns c = if_ok c.or-2.result c.or-2.ensures (λ t k. or_of c.in_ok-unlock.ensures (or_of c.in_ok-create.ensures c.in_ok-end.ensures c.in_ok-thread.ensures) k)
