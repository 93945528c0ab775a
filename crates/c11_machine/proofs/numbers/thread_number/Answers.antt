use Rattle.c11_num.specs.Wrapping.{wrapped}
use Rattle.std.proofs.Common.{ap, arith, ◌∙◌, ◌≡◌}
use Rattle.std.proofs.lemmas.Int.{ints, to_z-of_z}
use Rattle.std.specs.Int.{w128}
use Rattle.std.specs.Prelude.{ℤ}
use Rattle.c11_machine.proofs.Ranges.{unsigned_fits, unsigned_held}
use Rattle.c11_num.specs.Ranges.{TypedNumber}
use lib.IntN.{nat_abs}
use mir.Val.{of_z, to_z}
use Rattle.c11_machine.proofs.numbers.thread_number.Goals as goal

pub overflow_cast-result : goal.overflow_cast-result
overflow_cast-result c = let same = c.number.ensures.number in let held = unsigned_held _ _ c.convert.ensures c.number.ensures.in_range in let read : to_z w128 (of_z w128 c.number.result) ≡ c.convert.result.number = grind (arith, ints, to_z-of_z) in rw read (unsigned_fits c.convert.result.number held)

pub returns : goal.returns
unfolding wrapped
returns c = let same = c.number.ensures.number in let held = unsigned_held _ _ c.convert.ensures c.number.ensures.in_range in let read : to_z w128 (of_z w128 c.number.result) ≡ c.convert.result.number = grind (arith, ints, to_z-of_z) in ap (λ (z : ℤ). nat_abs z) (read ∙ ap (λ (v : TypedNumber). v.number) c.convert.ensures)
