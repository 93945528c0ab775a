use Rattle.std.proofs.Common.{arith}
use Rattle.c11_clock.proofs.Joined.{is_joined}
use Rattle.c11_clock.proofs.join_into.Goals as goal

pub returns : goal.returns
returns c = is_joined c.args.mine.now c.args.theirs.now _ c.requires (omega arith) (λ thread lt. c.loop-i.invariant.0 thread (omega arith))
