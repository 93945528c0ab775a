use Rattle.std.proofs.Common.{arith}
use Rattle.c11_plain.proofs.Numbers.{apart}
use Rattle.c11_plain.proofs.Conflicts.{race_is, race_conflict}
use Rattle.c11_plain.proofs.races.races.Goals as goal

pub returns : goal.returns
returns c = (
  λ h. race_is c.args.events.now c.args.m c.args.n (omega arith) (λ s. apart c.if-same_thread.false (c.same_thread.ensures.1 s))
      (λ b. apart c.if-holds.false (c.holds.ensures.1 (c.requires.complete _ _ b))) (c.conflict.ensures.0 h),
  λ r. c.conflict.ensures.1 (race_conflict c.args.events.now c.args.m c.args.n r),
)
