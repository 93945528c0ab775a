use Rattle.c11_machine.specs.Effects.{ActsAs}
use Rattle.std.proofs.Common.{ap, sym, ◌∙◌}
use Rattle.c11_machine.proofs.Effects.{from_same}
use Rattle.c11_machine.specs.Views.{config_of}
use Rattle.c11_meaning.specs.Library.{exchanged}
use Rattle.c11_meaning.specs.Outcome.{operation}
use Rattle.c11_num.specs.Ranges.{TypedNumber}
use Rattle.c11_num.specs.Wrapping.{converted}
use Rattle.c11_events.specs.declared.op.Op.TheVariants as op
use Rattle.c11_machine.proofs.machine.Machine.compare.Goals as goal

pub returns-in_default : goal.returns-in_default
unfolding ActsAs
returns-in_default c code = c.in_default.ensures.value _

pub returns-in_default-found : goal.returns-in_default-found
unfolding ActsAs
returns-in_default-found c code = c.in-Some.ensures.value _ ∙ c.in_default-found.ensures _

pub returns-in_default-found-2 : goal.returns-in_default-found-2
unfolding ActsAs
returns-in_default-found-2 c code = c.in-Some.ensures.value _ ∙ (c.in-Some-found.ensures _ ∙ c.in_default-found-2.ensures _)

pub returns : goal.returns
unfolding ActsAs
returns c code = let x = c.args.exchange in let place = c.in-Some-found.place.place in let cell = c.in-Some-found-2.found.place in
    c.in-Some.ensures.value _ ∙ (c.in-Some-found.ensures _ ∙ (c.in-Some-found-2.ensures _
    ∙ (from_same _ _ _ (ap (λ (v : TypedNumber). operation c.args.line (op.CompareExchange cell x.success x.failure x.weak v (converted x.ctype c.in-Some.value)) (config_of c.args.self.now).state (exchanged place)) (sym c.local.ensures)
    ∙ ap (λ (v : TypedNumber). operation c.args.line (op.CompareExchange cell x.success x.failure x.weak c.local.result v) (config_of c.args.self.now).state (exchanged place)) (sym c.convert.ensures)) ∙ c.operates.ensures)))
