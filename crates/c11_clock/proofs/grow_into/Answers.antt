use Rattle.std.proofs.Common.{arith}
use Rattle.c11_clock.proofs.Joined.{is_joined}
use Rattle.c11_clock.proofs.grow_into.Goals as goal

pub returns-clause-joined : goal.returns-clause-joined
returns-clause-joined c = is_joined c.args.mine.now c.args.theirs.now _ c.requires (omega arith) (λ thread lt. c.loop-place.invariant.done thread (omega arith))
