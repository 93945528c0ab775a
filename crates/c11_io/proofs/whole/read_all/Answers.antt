use Rattle.std.proofs.Common.{◌+◌, arith, length}
use Rattle.std.proofs.lemmas.Grind.{common_steps}
use Rattle.std.proofs.lemmas.Result.{err_from_is_err_and}
use Rattle.c11_io.proofs.Known.{lost_in_two}
use Rattle.c11_io.proofs.whole.read_all.Goals as goal

pub returns-then-count-limit-clause-stops : goal.returns-then-count-limit-clause-stops
returns-then-count-limit-clause-stops g c =
    lost_in_two _ _ _ _ _ _ (grind (arith, common_steps, c.in_ok-count.ensures.bound)) c.loop-bytes.invariant.taken c.in_ok-count.ensures.bytes.0

pub returns-in_err-extend_from_slice-clause-stops : goal.returns-in_err-extend_from_slice-clause-stops
returns-in_err-extend_from_slice-clause-stops g c =
    let p = err_from_is_err_and c.from_residual-in_err-extend_from_slice.result c.from_residual-in_err-extend_from_slice.ensures.1 in
    rw (p.1, p.2) (
      length c.loop-bytes.bytes.items + c.in_ok-count.count,
      omega arith,
      lost_in_two _ _ _ _ _ _ (grind (arith, common_steps, c.in_ok-count.ensures.bound)) c.loop-bytes.invariant.taken c.in_ok-count.ensures.bytes.0,
    )
