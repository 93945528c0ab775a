use Rattle.std.proofs.Common.{◌≡◌}
use Rattle.c11_events.specs.Events.{IsLoad, IsRmw}
use Rattle.c11_events.proofs.Rises.{rmw_load}
use Rattle.c11_plain.proofs.Loads.{for_some, for_none}
use Rattle.c11_plain.proofs.standing.is_lone.Goals as goal

pub returns-in-Some : goal.returns-in-Some
returns-in-Some c =
    let events = c.args.events.now in
    let e = for_some (λ z. IsLoad events c.args.cell c.args.b z) (λ x. IsRmw events c.args.cell c.args.b x → IsRmw events c.args.cell c.args.c x → c.args.b ≡ c.args.c)
    c.in-Some.x c.is_one.result c.in-Some.ensures c.is_one.ensures in
    (λ h. record { one = λ x r s. e.0 h x (rmw_load events c.args.cell c.args.b x r) r s }, λ l. e.1 (λ x _ r s. l.one x r s))

pub returns-in-None : goal.returns-in-None
returns-in-None c =
    let events = c.args.events.now in
    let e = for_none (λ z. IsLoad events c.args.cell c.args.b z) (λ x. IsRmw events c.args.cell c.args.b x → IsRmw events c.args.cell c.args.c x → c.args.b ≡ c.args.c) c.in-None.ensures in
    (λ h. record { one = λ x r s. e.0 h x (rmw_load events c.args.cell c.args.b x r) r s }, λ l. e.1 (λ x _ r s. l.one x r s))
