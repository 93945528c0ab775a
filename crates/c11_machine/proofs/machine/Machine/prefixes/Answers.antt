use Rattle.c11_flat.specs.Flat.{from}
use Rattle.std.proofs.Common.{Bool, ap, refl, ◌∙◌}
use Rattle.c11_ast.specs.declared.expr.Prefix.{Prefix}
use Rattle.c11_machine.proofs.Effects.{from_same, gives_seen}
use Rattle.c11_machine.specs.Views.{config_of}
use Rattle.c11_meaning.specs.Expressions.{prefixed}
use Rattle.c11_num.specs.Operators.{truth}
use Rattle.c11_machine.proofs.machine.Machine.prefixes.Goals as goal

pub returns-in-Plus : goal.returns-in-Plus
unfolding from
returns-in-Plus c = from_same _ _ _ (ap (λ (p : Prefix). prefixed p c.args.line c.args.value (config_of c.args.self.now).state) c.in-Plus.is) ∙ gives_seen 1 _ _ _ (config_of c.args.self.now) refl c.gives.ensures

pub returns-in-Not : goal.returns-in-Not
unfolding from
returns-in-Not c = from_same _ _ _ (ap (λ (p : Prefix). prefixed p c.args.line c.args.value (config_of c.args.self.now).state) c.in-Not.is)
    ∙ gives_seen 1 _ _ _ (config_of c.args.self.now) (c.truth.ensures ∙ ap (λ (b : Bool). truth b) c.is_zero.ensures) c.gives-in-Not.ensures

pub returns-in-Flip : goal.returns-in-Flip
unfolding from
returns-in-Flip c = from_same _ _ _ (ap (λ (p : Prefix). prefixed p c.args.line c.args.value (config_of c.args.self.now).state) c.in-Flip.is) ∙ gives_seen 1 _ _ _ (config_of c.args.self.now) c.flip.ensures c.gives-in-Flip.ensures
