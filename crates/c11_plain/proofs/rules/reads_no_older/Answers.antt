use Rattle.std.proofs.Common.{not}
use Rattle.c11_events.specs.Events.{IsLoad}
use Rattle.c11_events.specs.Lawful.{Precedes}
use Rattle.c11_plain.proofs.Filling.{not_iff}
use Rattle.c11_plain.proofs.Loads.{for_some, for_none}
use Rattle.c11_plain.proofs.rules.reads_no_older.Goals as goal

pub returns-in-Some : goal.returns-in-Some
returns-in-Some c = for_some (λ z. IsLoad c.args.events.now c.args.cell c.args.k z) (λ y. Precedes c.args.order.now y c.args.x → ⊥) c.in-Some.y (not c.precedes.result) c.in-Some.ensures
    (not_iff c.precedes.result (Precedes c.args.order.now c.in-Some.y c.args.x) c.precedes.ensures)

pub returns-in-None : goal.returns-in-None
returns-in-None c = for_none (λ z. IsLoad c.args.events.now c.args.cell c.args.k z) (λ y. Precedes c.args.order.now y c.args.x → ⊥) c.in-None.ensures
