use Rattle.std.proofs.Common.{◌≡◌, ◌≤◌, length}
use Rattle.c11_claims.specs.Claims.{beyond}
use Rattle.c11_machine.specs.Programs.{program_of}
use Rattle.c11_campaign.specs.Workers.{HasRun}
use Rattle.c11_campaign.proofs.hunt.tally_seeds.Given as goal

abbrev pub invariant-loop-turn : goal.invariant-loop-turn
invariant-loop-turn g l =
    (l.claimer.claims ≡ l.claims)
    × (l.claimer.shares ≡ l.fn.claimer.shares)
    × (beyond l.claims.count l.claimer.claimed ≡ 0)
    × (length l.claimer.claimed ≡ l.turn)
    × (l.turn ≤ l.count)
    × HasRun (program_of l.hunt.checked.now) l.hunt.first l.hunt.steps l.claimer.claimed l.tallied
