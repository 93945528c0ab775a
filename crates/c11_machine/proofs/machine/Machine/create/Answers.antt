use Rattle.c11_machine.specs.Effects.{ActsAs}
use Rattle.std.proofs.Common.{ap, arith, sym, ◌∙◌, ◌≡◌}
use Rattle.std.proofs.lemmas.Int.{ints, to_z-of_z}
use Rattle.std.specs.Int.{w64}
use Rattle.std.specs.Prelude.{ℤ}
use Rattle.c11_machine.proofs.Effects.{from_same}
use Rattle.c11_machine.specs.Views.{config_of}
use Rattle.c11_meaning.specs.Library.{created}
use Rattle.c11_meaning.specs.Outcome.{operation}
use mir.Val.{of_z, to_z}
use Rattle.c11_events.specs.declared.op.Op.TheVariants as op
use Rattle.c11_machine.proofs.machine.Machine.create.Goals as goal

pub returns-in_default : goal.returns-in_default
unfolding ActsAs
returns-in_default c code = c.in_default.ensures.value _

pub returns-in_default-found : goal.returns-in_default-found
unfolding ActsAs
returns-in_default-found c code = c.in-Some.ensures.value _ ∙ c.in_default-found.ensures _

pub returns : goal.returns
unfolding ActsAs
returns c code = let long : to_z w64 (of_z w64 c.long_number.result) ≡ c.long_number.result = grind (arith, ints, to_z-of_z) in
    c.in-Some.ensures.value _ ∙ (c.in-Some-found.ensures _
    ∙ (from_same _ _ _ (ap (λ (z : ℤ). operation c.args.line (op.Create c.args.function z) (config_of c.args.self.now).state (created c.in-Some-found.found.place)) (sym (long ∙ c.long_number.ensures))) ∙ c.operates.ensures))
