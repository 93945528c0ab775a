use Rattle.std.proofs.Common.{rules}
use Rattle.c11_events.specs.HappensBefore.{IsReleaseStore, IsAcquireFence}
use Rattle.c11_plain.proofs.Filling.{if_ok, selected, then_of}
use Rattle.c11_plain.proofs.happens.release_to_fence.Goals as goal

pub returns : goal.returns
returns c = if_ok c.only.result c.only.ensures (λ t k. selected _ t _ _ (λ a b. IsReleaseStore c.args.events.now a × IsAcquireFence c.args.events.now b) k
    (then_of c.in_ok-read.ensures c.in_ok-order.ensures c.in_ok-ahead.ensures)
    (λ a b h t. search rules) (λ a b h t p. search rules))
