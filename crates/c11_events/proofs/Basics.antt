-- Events by number, and the heads of chains.
use Rattle.std.proofs.Common.{◌≡◌, ℕ, List, Some, None, sym, ap, ◌∙◌}
use Rattle.c11_events.specs.declared.event.Event.{Event}
use Rattle.c11_events.specs.Events.{At, event_at, IsStore, IsRmw, loaded_cell}
use Rattle.c11_events.specs.HappensBefore.{ReleaseSequence, here, next}

pub at_same : (events : List Event) (a : ℕ) (e f : Event) → event_at events a ≡ Some e → event_at events a ≡ Some f → e ≡ f
at_same events a e f at_e at_f = let both : Some e ≡ Some f = sym at_e ∙ at_f in cc

pub head_no_rmw : (events : List Event) (cell h y : ℕ) → At events h (λ e. loaded_cell e.kind ≡ None) → IsRmw events cell h y → ⊥
head_no_rmw events cell h y head rmw =
    let same = at_same events h head.event rmw.event head.is rmw.is in
    let e : None ≡ Some cell = sym head.holds ∙ (ap (λ (f : Event). loaded_cell f.kind) same ∙ rmw.holds.1) in cc

pub chain_head : (events : List Event) (cell s n x : ℕ) → ReleaseSequence events cell s n x → IsStore events cell s
chain_head events cell s _ _ (here is) = is
chain_head events cell s _ _ (next {n = n} {y = y} c r) = chain_head events cell s n y c

pub chain_store : (events : List Event) (cell s n x : ℕ) → ReleaseSequence events cell s n x → IsStore events cell x
chain_store events cell s _ _ (here is) = is
chain_store events cell s _ _ (next {n = n} {y = y} c r) = record { event = r.event; is = r.is; holds = r.holds.0 }
