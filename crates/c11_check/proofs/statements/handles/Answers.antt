use Rattle.c11_check.proofs.Walking.{handle_walked}
use Rattle.c11_check.proofs.statements.handles.Goals as goal

pub loop-place-preserved : goal.loop-place-preserved
loop-place-preserved c = handle_walked c.loop-place.first c.args.places.now c.loop-place.place-index c.place-item.result c.loop-place.scopes c.args.first _
    c.loop-place-test.true c.place-item.is c.in_ok-first.ensures c.loop-place.invariant
