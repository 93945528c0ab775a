use Rattle.std.proofs.Common.{ap, arith, sym, ℕ, ◌+◌, ◌∙◌, ◌≡◌}
use Rattle.std.proofs.lemmas.Int.{ints, to_z-of_z}
use Rattle.std.specs.Int.{w128}
use Rattle.std.specs.Int.Signed.{le_z, lt_z}
use Rattle.std.specs.Prelude.{pos, ℤ}
use Rattle.c11_machine.proofs.Indexes.{inside, too_high, too_low}
use Rattle.c11_meaning.specs.Outcome.{Gives}
use lib.IntN.{nat_abs}
use mir.Val.{of_z, to_z}
use Rattle.c11_machine.proofs.numbers.element_of.Goals.{else-number-ge0-via-then-number-ge0+else-number-from, else-number-ge0-via-else-number-ge0}
use Rattle.c11_machine.proofs.numbers.element_of.Goals as goal

pub returns-then-number-from : goal.returns-then-number-from
returns-then-number-from c line st = let z = c.args.index.number in let same : to_z w128 (of_z w128 c.number-number.result) ≡ z = grind (arith, ints, to_z-of_z) in
    let size : to_z w128 (of_z w128 c.from.result) ≡ pos c.args.span.size = grind (arith, ints, to_z-of_z) in
    inside line c.args.span.base c.args.span.size z st
    (ap (λ (x : ℤ). le_z (pos 0) x) (sym same) ∙ c.if-number-ge0.true)
    (ap (λ (x : ℤ). lt_z x (pos c.args.span.size)) (sym same) ∙ (ap (λ (x : ℤ). lt_z (to_z w128 (of_z w128 c.number-number.result)) x) (sym size) ∙ c.if-number-from.true))
    ∙ (ap (λ (b : ℕ). Gives (b + nat_abs z) st) (sym c.base.ensures) ∙ ap (λ (x : ℤ). Gives (c.base.result + nat_abs x) st) (sym same))

pub returns-else-number-ge0 : goal.returns-else-number-ge0
returns-else-number-ge0 c line st = let z = c.args.index.number in let same : to_z w128 (of_z w128 c.number-number.result) ≡ z = grind (arith, ints, to_z-of_z) in
    elim c.else-number-ge0.branch [
      | else-number-ge0-via-then-number-ge0+else-number-from w ↦ (let size : to_z w128 (of_z w128 w.from.result) ≡ pos c.args.span.size = grind (arith, ints, to_z-of_z) in
          too_high line c.args.span.base c.args.span.size z st
          (ap (λ (x : ℤ). lt_z x (pos c.args.span.size)) (sym same) ∙ (ap (λ (x : ℤ). lt_z (to_z w128 (of_z w128 c.number-number.result)) x) (sym size) ∙ w.if-number-from.false)))
      | else-number-ge0-via-else-number-ge0 w ↦ too_low line c.args.span.base c.args.span.size z st (ap (λ (x : ℤ). le_z (pos 0) x) (sym same) ∙ w.if-number-ge0.false)
    ]
