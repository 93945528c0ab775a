use Rattle.std.proofs.Common.{ℕ}
use Rattle.c11_events.specs.Events.{IsLoad}
use Rattle.c11_events.specs.Lawful.{Precedes}
use Rattle.c11_plain.proofs.Loads.{for_some, for_none}
use Rattle.c11_plain.proofs.rules.read_read.Goals as goal

pub returns-in-Some : goal.returns-in-Some
returns-in-Some c = let e = for_some (λ z. IsLoad c.args.events.now c.args.cell c.args.l z) (λ x. (y : ℕ) → IsLoad c.args.events.now c.args.cell c.args.k y → Precedes c.args.order.now y x → ⊥) c.in-Some.x c.reads_no_older.result c.in-Some.ensures c.reads_no_older.ensures in (λ h. record { fits = e.0 h }, λ r. e.1 r.fits)

pub returns-in-None : goal.returns-in-None
returns-in-None c = let e = for_none (λ z. IsLoad c.args.events.now c.args.cell c.args.l z) (λ x. (y : ℕ) → IsLoad c.args.events.now c.args.cell c.args.k y → Precedes c.args.order.now y x → ⊥) c.in-None.ensures in (λ h. record { fits = e.0 h }, λ r. e.1 r.fits)
