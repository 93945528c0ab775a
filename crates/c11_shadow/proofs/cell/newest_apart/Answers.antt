use Rattle.std.proofs.Common.{ap, ◌∙◌, max}
use Rattle.c11_shadow.proofs.Scans.{newest_more, newest_all}
use Rattle.c11_shadow.proofs.cell.newest_apart.Goals as goal

pub loop-epoch-preserved : goal.loop-epoch-preserved
loop-epoch-preserved c = newest_more _ _ _ _ _ _ c.loop-epoch-test.true c.loop-epoch.invariant (c.max-newest.ensures ∙ ap (λ n. max n c.loop-epoch.newest) c.apart_number.ensures)

pub returns : goal.returns
returns c = newest_all _ _ _ c.loop-epoch.epoch-index _ c.loop-epoch.newest c.loop-epoch-test.false c.loop-epoch.invariant
