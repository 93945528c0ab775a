use Rattle.std.proofs.Common.{sym, ap, ◌∙◌, arith}
use Rattle.c11_check.specs.Bound.{names_of}
use Rattle.c11_check.specs.Scopes.{Scope, denoted}
use Rattle.c11_check.proofs.Bindings.{place_within, denoted_there, denoted_nowhere}
use Rattle.c11_check.proofs.scopes.Scopes.denoted.Goals as goal

pub index-requires : goal.index-requires
index-requires c = omega (arith, place_within c.self.inside.bindings.items c.args.name.now _ (sym (c.self.invariant.0 c.args.name.now) ∙ (sym c.place.ensures ∙ c.in-Some.is)), c.self.inside.bindings.ok.0)

pub returns-in-Some : goal.returns-in-Some
returns-in-Some c = denoted_there c.self.inside.bindings.items c.args.name.now _ _ _ (sym (c.self.invariant.0 c.args.name.now) ∙ (sym c.place.ensures ∙ c.in-Some.is)) c.index.ensures
    ∙ ap (λ (s : Scope). denoted s c.args.name.now) c.self.view_is

pub returns-in-None : goal.returns-in-None
returns-in-None c = c.library_entity.ensures
    ∙ (denoted_nowhere (names_of c.self.inside.bindings.items) c.args.name.now _ (sym (c.self.invariant.0 c.args.name.now) ∙ (sym c.place.ensures ∙ c.in-None.is))
    ∙ ap (λ (s : Scope). denoted s c.args.name.now) c.self.view_is)
