use Rattle.std.proofs.Common.{List, ap, arith, ◌+◌, ◌-◌, ◌∙◌}
use Rattle.std.specs.Prelude.{ℤ}
use Rattle.c11_machine.proofs.Popped.{zeros_more}
use Rattle.c11_machine.specs.Steps.{zeros}
use Rattle.c11_machine.specs.Views.{numbers_of}
use Rattle.c11_machine.proofs.clear.clear_places.Goals as goal

pub loop-i-preserved : goal.loop-i-preserved
loop-i-preserved c =
    ap (λ (xs : List ℤ). zeros (c.args.place + (c.loop-i.i + 1)) (c.args.count - (c.loop-i.i + 1)) xs) c.clear_place.ensures
    ∙ (zeros_more c.args.place c.loop-i.i c.args.count (numbers_of c.loop-i.locals.items) (omega arith) ∙ c.loop-i.invariant)
