use Rattle.c11_check.proofs.Walking.{param_walked}
use Rattle.c11_check.proofs.programs.params.Goals as goal

pub loop-declared-preserved : goal.loop-declared-preserved
loop-declared-preserved c = param_walked c.loop-declared.first c.args.params.now c.loop-declared.declared-index c.declared-item.result c.loop-declared.scopes c.args.first _
    c.loop-declared-test.true c.declared-item.is c.in_ok-first.ensures c.loop-declared.invariant
