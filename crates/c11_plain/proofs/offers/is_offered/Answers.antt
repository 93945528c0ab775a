use Rattle.std.proofs.Common.{List, subst, sym, ◌∙◌}
use Rattle.c11_events.specs.declared.event.Event.{Event}
use Rattle.c11_events.specs.Lawful.{Consistent}
use Rattle.c11_plain.proofs.Filling.{if_ok}
use Rattle.c11_plain.proofs.offers.is_offered.Goals as goal

pub returns : goal.returns
returns c = if_ok c.is_consistent.result c.is_consistent.ensures (λ b e.
    let same = c.as_slice.ensures.value ∙ c.in_ok-longer.ensures in (
      λ h. record { store = c.is_store.ensures.0 c.if-not-is_store.false; consistent = subst (λ (z : List Event). Consistent z) same (e.0 h) },
      λ o. e.1 (subst (λ (z : List Event). Consistent z) (sym same) o.consistent),
    ))
