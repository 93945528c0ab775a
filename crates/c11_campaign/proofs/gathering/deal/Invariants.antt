use Rattle.std.proofs.Common.{◌≡◌, ◌+◌, [], length, All}
use Rattle.c11_claims.specs.Claims.{hand}
use Rattle.c11_campaign.specs.declared.hunt.Worker.{Worker}
use Rattle.c11_campaign.specs.Workers.{worker_shares}
use Rattle.c11_campaign.proofs.gathering.deal.Given as goal

abbrev pub invariant-loop-number : goal.invariant-loop-number
invariant-loop-number l =
    (l.claimer ≡ hand l.claims l.claimer.shares [])
    × (l.claimer.shares + l.number ≡ 65)
    × (worker_shares l.dealt.items + l.claimer.shares ≡ 64)
    × (length l.dealt.items + 1 ≡ l.number)
    × All (λ (w : Worker). w.claimer ≡ hand l.claims w.claimer.shares []) l.dealt.items
