use Rattle.c11_plain.proofs.Filling.{if_ok, same_of, or_of}
use Rattle.c11_plain.proofs.FenceWays.{any_fenced, fenced_any}
use Rattle.c11_plain.proofs.fences.fenced.Goals as goal

pub returns : goal.returns
returns c = if_ok c.or-2.result c.or-2.ensures (λ t k.
    same_of (or_of c.in_ok-before.ensures (or_of c.in_ok-after.ensures c.in_ok-between.ensures c.in_ok-either.ensures) k)
    (any_fenced c.args.events.now) (fenced_any c.args.events.now))
