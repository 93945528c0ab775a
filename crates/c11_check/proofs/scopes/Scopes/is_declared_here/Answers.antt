use Rattle.std.proofs.Common.{sym, ap, ◌∙◌}
use Rattle.c11_check.specs.Bound.{names_of}
use Rattle.c11_check.specs.Scopes.{Scope, is_declared_here}
use Rattle.c11_check.proofs.Bindings.{declared_here, declared_nowhere}
use Rattle.c11_check.proofs.scopes.Scopes.is_declared_here.Goals as goal

pub returns-in-Some : goal.returns-in-Some
returns-in-Some c = declared_here c.self.inside.start (names_of c.self.inside.bindings.items) c.args.name.now _ (sym (c.self.invariant.0 c.args.name.now) ∙ (sym c.place.ensures ∙ c.in-Some.is))
    ∙ ap (λ (s : Scope). is_declared_here s c.args.name.now) c.self.view_is

pub returns-in-None : goal.returns-in-None
returns-in-None c = declared_nowhere c.self.inside.start (names_of c.self.inside.bindings.items) c.args.name.now (sym (c.self.invariant.0 c.args.name.now) ∙ (sym c.place.ensures ∙ c.in-None.is))
    ∙ ap (λ (s : Scope). is_declared_here s c.args.name.now) c.self.view_is
