use Rattle.std.proofs.Common.{sym, ◌∙◌, arith}
use Rattle.c11_check.specs.declared.scopes.Binding.{Binding}
use Rattle.c11_check.proofs.Kept.{on_ok, kept_push, pushed_items}
use Rattle.c11_check.proofs.scopes.Scopes.declare.Goals as goal

pub invariant_of-self-2 : goal.invariant_of-self-2
invariant_of-self-2 c =
    let b : Binding = record { name = c.args.name; entity = c.args.entity; hides = c.place-hides.result } in
    let items = pushed_items c.push.result _ _ (sym c.is_err.ensures.value ∙ c.if-is_err.false) c.push.ensures.items in
    let changed = on_ok c.set.result (sym c.is_err-2.ensures.value ∙ c.if-is_err-2.false) c.set.ensures.changed in
    let n = c.len-place.ensures in
    kept_push c.self.inside.bindings.items b c.self.inside.last c.set.new.self c.push.new.self.items c.len-place.result c.self.invariant items
    (omega (arith, n, c.self.inside.bindings.ok.0)) c.place-hides.ensures changed
