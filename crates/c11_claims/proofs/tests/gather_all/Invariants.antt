use Rattle.std.proofs.Common.{◌≡◌, ◌+◌, ◌≤◌, length, All, IfOk}
use Rattle.c11_claims.specs.Claims.{beyond}
use Rattle.c11_claims.proofs.tests.gather_all.Given as goal

abbrev pub invariant-loop-worker : goal.invariant-loop-worker
invariant-loop-worker l = record {
  here : l.claimer.claims ≡ l.claims;
  each : All (λ w. IfOk w (λ r. (r.0.claims ≡ l.claims) × (r.0.shares ≡ 1))) l.done.items;
  shares : l.claimer.shares + length l.done.items ≡ l.fn.claimer.shares + length l.fn.done.items;
  claimed : beyond l.claims.count l.fn.claimer.claimed ≤ beyond l.claims.count l.claimer.claimed;
}

abbrev pub decreases-loop-worker : goal.decreases-loop-worker
decreases-loop-worker l = length l.done.items
