use Rattle.std.proofs.Common.{◌≡◌, ◌-◌, length}
use Rattle.c11_claims.specs.Claims.{beyond}
use Rattle.c11_claims.proofs.tests.work.Given as goal

abbrev pub invariant-loop-number : goal.invariant-loop-number
invariant-loop-number l = record {
  here : l.claimer.claims ≡ l.claims;
  shares : l.claimer.shares ≡ l.fn.claimer.shares;
  going : beyond l.claims.count l.claimer.claimed ≡ 0;
}

abbrev pub decreases-loop-number : goal.decreases-loop-number
decreases-loop-number l = l.claims.count - length l.claimer.claimed
