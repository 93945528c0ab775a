use Rattle.std.proofs.Common.{arith}
use Rattle.c11_plain.proofs.Numbers.{create_first, first_created}
use Rattle.c11_plain.proofs.direct.create_before_first.Goals as goal

pub returns-then-is_create : goal.returns-then-is_create
returns-then-is_create c = (
  λ h. create_first _ _ _ _ (c.is_create.ensures.0 c.if-is_create.true) (omega arith) c.created.ensures (c.is_first.ensures.0 h),
  λ k. c.is_first.ensures.1 (first_created _ _ _ _ c.created.ensures k),
)
