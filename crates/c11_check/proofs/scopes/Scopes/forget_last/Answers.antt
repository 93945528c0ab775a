use Rattle.c11_check.proofs.Kept.{on_present, kept_pop, has_entry}
use Rattle.c11_check.proofs.scopes.Scopes.forget_last.Goals as goal

pub invariant_of-self : goal.invariant_of-self
invariant_of-self c =
    let bs = c.pop.new.self.items in
    let items = c.self.inside.bindings.items in
    let changed = on_present c.set.result _ _ c.set.ensures.absent (has_entry bs c.in-Some.binding c.self.inside.last items c.self.invariant c.in-Some.ensures.items) c.set.ensures.changed in
    kept_pop bs c.in-Some.binding c.self.inside.last c.set.new.self items c.self.invariant c.in-Some.ensures.items changed
