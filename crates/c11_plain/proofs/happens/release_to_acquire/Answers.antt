use Rattle.std.proofs.Common.{rules}
use Rattle.c11_events.specs.HappensBefore.{IsReleaseStore, IsAcquireLoad}
use Rattle.c11_plain.proofs.Filling.{if_ok, selected}
use Rattle.c11_plain.proofs.happens.release_to_acquire.Goals as goal

pub returns : goal.returns
returns c = if_ok c.only.result c.only.ensures (λ t k. selected _ t _ _ (λ a b. IsReleaseStore c.args.events.now a × IsAcquireLoad c.args.events.now b) k
    (c.in_ok-read.ensures)
    (λ a b h t. search rules) (λ a b h t p. search rules))
