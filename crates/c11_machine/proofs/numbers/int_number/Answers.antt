use Rattle.std.proofs.Common.{ap, arith, ◌∙◌, ◌≡◌}
use Rattle.std.proofs.lemmas.Int.{ints, to_z-of_z}
use Rattle.std.specs.Int.{w128, w32}
use Rattle.c11_machine.proofs.Ranges.{int_held}
use Rattle.c11_num.specs.Ranges.{TypedNumber}
use mir.Val.{of_z, to_z}
use Rattle.c11_machine.proofs.numbers.int_number.Goals as goal

pub overflow_cast-result : goal.overflow_cast-result
overflow_cast-result c = let same = c.number.ensures.number in let held = int_held _ _ c.convert.ensures c.number.ensures.in_range in grind (arith, ints, to_z-of_z)

pub returns : goal.returns
returns c = let same = c.number.ensures.number in let held = int_held _ _ c.convert.ensures c.number.ensures.in_range in let read : to_z w32 (of_z w32 (to_z w128 (of_z w128 c.number.result))) ≡ c.number.result = grind (arith, ints, to_z-of_z) in
    read ∙ (same ∙ ap (λ (v : TypedNumber). v.number) c.convert.ensures)
