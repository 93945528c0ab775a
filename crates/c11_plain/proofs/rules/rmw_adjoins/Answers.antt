use Rattle.c11_events.specs.Events.{IsStore, IsLoad}
use Rattle.c11_events.specs.Lawful.{IsNext}
use Rattle.c11_plain.proofs.Loads.{for_some, for_none}
use Rattle.c11_plain.proofs.rules.rmw_adjoins.Goals as goal

pub returns-in-Some : goal.returns-in-Some
returns-in-Some c = for_some (λ z. IsLoad c.args.events.now c.args.cell c.args.b z) (λ x. IsStore c.args.events.now c.args.cell c.args.b → IsNext c.args.order.now x c.args.b) c.in-Some.x c.adjoins.result c.in-Some.ensures c.adjoins.ensures

pub returns-in-None : goal.returns-in-None
returns-in-None c = for_none (λ z. IsLoad c.args.events.now c.args.cell c.args.b z) (λ x. IsStore c.args.events.now c.args.cell c.args.b → IsNext c.args.order.now x c.args.b) c.in-None.ensures
