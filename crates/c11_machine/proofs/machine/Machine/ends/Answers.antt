use Rattle.c11_flat.specs.Flat.{from}
use Rattle.std.proofs.Common.{ap, arith, sym, ◌∙◌, ◌≡◌}
use Rattle.std.proofs.lemmas.Int.{ints, to_z-of_z}
use Rattle.std.specs.Int.{w32}
use Rattle.std.specs.Prelude.{ℤ}
use Rattle.c11_flat.specs.Flat.{Says}
use Rattle.c11_machine.proofs.Effects.{operation_asks, operation_takes}
use Rattle.c11_machine.specs.Views.{config_of, listed}
use mir.Val.{of_z, to_z}
use Rattle.c11_events.specs.declared.op.Op.TheVariants as op
use Rattle.c11_machine.proofs.machine.Machine.ends.Goals as goal

pub returns-in-None : goal.returns-in-None
returns-in-None c = let read : to_z w32 (of_z w32 c.int_number.result) ≡ c.int_number.result = grind (arith, ints, to_z-of_z) in
    operation_asks c.args.line _ (config_of c.args.self.now).state _ _ (ap listed c.in-None.is) ∙ ap (λ (z : ℤ). Says (record { line = c.args.line; op = op.End z })) (sym (read ∙ c.int_number.ensures))

pub returns-in-Some : goal.returns-in-Some
unfolding from
returns-in-Some c = operation_takes c.args.line _ (config_of c.args.self.now).state _ _ c.in-Some.field-0 (ap listed c.in-Some.is)
