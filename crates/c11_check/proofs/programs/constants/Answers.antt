use Rattle.std.proofs.Common.{◌∙◌}
use Rattle.c11_check.proofs.Walking.{constant_walked}
use Rattle.c11_check.proofs.programs.constants.Goals as goal

pub loop-constant-preserved : goal.loop-constant-preserved
loop-constant-preserved c = constant_walked c.loop-constant.first c.args.constants.now c.loop-constant.constant-index c.constant-item.result c.args.scopes.now c.loop-constant-test.true c.constant-item.is c.misconstant-first.ensures
    ∙ c.loop-constant.invariant
