use Rattle.c11_events.specs.Events.{IsStore, IsLoad}
use Rattle.c11_events.specs.Lawful.{Precedes}
use Rattle.c11_plain.proofs.Loads.{for_some, for_none}
use Rattle.c11_plain.proofs.rules.write_read.Goals as goal

pub returns-in-Some : goal.returns-in-Some
returns-in-Some c = let e = for_some (λ z. IsLoad c.args.events.now c.args.cell c.args.l z) (λ x. IsStore c.args.events.now c.args.cell c.args.a → Precedes c.args.order.now x c.args.a → ⊥) c.in-Some.x c.is_no_older.result c.in-Some.ensures c.is_no_older.ensures in (λ h. record { fits = e.0 h }, λ r. e.1 r.fits)

pub returns-in-None : goal.returns-in-None
returns-in-None c = let e = for_none (λ z. IsLoad c.args.events.now c.args.cell c.args.l z) (λ x. IsStore c.args.events.now c.args.cell c.args.a → Precedes c.args.order.now x c.args.a → ⊥) c.in-None.ensures in (λ h. record { fits = e.0 h }, λ r. e.1 r.fits)
