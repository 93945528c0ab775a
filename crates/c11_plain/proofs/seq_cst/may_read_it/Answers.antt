use Rattle.c11_events.specs.Events.{IsLoad}
use Rattle.c11_plain.specs.SeqCst.{MayRead}
use Rattle.c11_plain.proofs.Loads.{for_some, for_none}
use Rattle.c11_plain.proofs.seq_cst.may_read_it.Goals as goal

pub returns-in-Some : goal.returns-in-Some
returns-in-Some c =
    let e = for_some (λ z. IsLoad c.args.events.now c.args.cell c.args.l z) (λ x. MayRead c.args.events.now c.args.cell c.args.l x c.args.a)
    c.in-Some.x c.may_read.result c.in-Some.ensures c.may_read.ensures in
    (λ h. record { may = e.0 h }, λ r. e.1 r.may)

pub returns-in-None : goal.returns-in-None
returns-in-None c =
    let e = for_none (λ z. IsLoad c.args.events.now c.args.cell c.args.l z) (λ x. MayRead c.args.events.now c.args.cell c.args.l x c.args.a) c.in-None.ensures in
    (λ h. record { may = e.0 h }, λ r. e.1 r.may)
