use Rattle.c11_check.proofs.Walking.{var_walked}
use Rattle.c11_check.proofs.programs.vars.Goals as goal

pub loop-declared-preserved : goal.loop-declared-preserved
loop-declared-preserved c = var_walked c.loop-declared.first c.args.kind c.args.vars.now c.loop-declared.declared-index c.declared-item.result c.loop-declared.scopes c.args.first _
    c.loop-declared-test.true c.declared-item.is c.in_ok-first.ensures c.loop-declared.invariant
