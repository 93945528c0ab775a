use Rattle.c11_check.proofs.Walking.{item_walked}
use Rattle.c11_check.proofs.programs.items.Goals as goal

pub loop-each-preserved : goal.loop-each-preserved
loop-each-preserved c = item_walked c.loop-each.first c.args.items.now c.loop-each.each-index c.each-item.result c.loop-each.scopes c.args.first _
    c.loop-each-test.true c.each-item.is c.in_ok-first.ensures c.loop-each.invariant
