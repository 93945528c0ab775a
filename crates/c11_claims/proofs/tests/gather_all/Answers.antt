use Rattle.std.proofs.Common.{rules, ◌≡◌, ◌+◌, ap, ◌∙◌, arith}
use Rattle.c11_claims.specs.Claims.{Hand, beyond}
use Rattle.c11_claims.proofs.Counts.{beyond-append}
use Rattle.std.proofs.lemmas.Grind.{common_steps}
use Rattle.c11_claims.proofs.tests.gather_all.Goals as goal

pub loop-worker-preserved : goal.loop-worker-preserved
loop-worker-preserved c =
    let count = c.args.claims.now.count in
    let grown : beyond count c.gather.new.claimer.claimed ≡ beyond count c.loop-worker.claimer.claimed + beyond count c.in_ok-other.other.claimed =
    ap (λ (z : Hand). beyond count z.claimed) c.gather.ensures ∙ beyond-append count _ _
    in
    record {
      here = search rules;
      each = grind (arith, common_steps);
      shares = grind (arith, common_steps);
      claimed = omega (arith, grown);
    }
