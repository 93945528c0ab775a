use Rattle.c11_check.proofs.Walking.{local_walked}
use Rattle.c11_check.proofs.statements.locals.Goals as goal

pub loop-declared-preserved : goal.loop-declared-preserved
loop-declared-preserved c = local_walked c.loop-declared.first c.args.ctype c.args.locals.now c.loop-declared.declared-index c.declared-item.result c.loop-declared.scopes c.args.first _
    c.loop-declared-test.true c.declared-item.is c.in_ok-first.ensures c.loop-declared.invariant
