use Rattle.std.proofs.Common.{◌≡◌, ◌≤◌, Some, sym, ◌∙◌}
use Rattle.c11_events.specs.Events.{IsStore, loaded_cell}
use Rattle.c11_plain.proofs.Loads.{for_some}
use Rattle.c11_plain.proofs.reading.reads_well.Goals as goal

pub returns-in-Some : goal.returns-in-Some
returns-in-Some c =
    let e = for_some (λ cell. loaded_cell c.args.event.now.kind ≡ Some cell) (λ cell. IsStore c.args.events.now cell c.args.event.now.from × (c.args.event.now.from ≤ c.args.place))
    c.in-Some.cell c.is_store_within.result (λ z. (λ is. sym c.in-Some.ensures ∙ is, λ is. c.in-Some.ensures ∙ is)) c.is_store_within.ensures in
    (λ h. record { store = e.0 h }, λ r. e.1 r.store)
