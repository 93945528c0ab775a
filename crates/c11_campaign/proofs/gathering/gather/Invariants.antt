use Rattle.std.proofs.Common.{◌≡◌, ◌+◌, ◌*◌, ◌<◌, ◌≤◌, length, All}
use Rattle.c11_claims.specs.Claims.{beyond}
use Rattle.c11_machine.specs.Programs.{program_of}
use Rattle.c11_tally.specs.Tallies.{runs}
use Rattle.c11_campaign.specs.Workers.{HasRun, IsWorked, below, worked_shares}
use Rattle.c11_campaign.proofs.gathering.gather.Given as goal

abbrev pub invariant-loop-other : goal.invariant-loop-other
invariant-loop-other l =
    (l.claimer.claims ≡ l.claims)
    × (l.claimer.shares + worked_shares l.left.items ≡ 64)
    × (0 < beyond l.claims.count l.claimer.claimed)
    × (runs l.tallied.tallies + length l.left.items * 1000001 ≤ 64000064)
    × All (IsWorked (program_of l._hunt.checked.now) l._hunt.first l._hunt.steps l.claims) l.left.items
    × HasRun (program_of l._hunt.checked.now) l._hunt.first l._hunt.steps (below l.claims.count l.claimer.claimed) l.tallied

abbrev pub decreases-loop-other : goal.decreases-loop-other
decreases-loop-other l = length l.left.items
