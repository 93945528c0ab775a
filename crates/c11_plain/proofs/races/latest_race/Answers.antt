use Rattle.std.proofs.Common.{arith, ℕ, ◌+◌, Option, subst, sym}
use Rattle.c11_plain.specs.Parts.{RacesAnywhere}
use Rattle.c11_plain.proofs.Numbers.{apart}
use Rattle.c11_plain.proofs.Conflicts.{Latest, latest_none, latest_here, latest_before, latest_racing}
use Rattle.c11_plain.proofs.races.latest_race.Goals as goal
use Rattle.c11_plain.proofs.races.latest_race.Goals.{then-races, else-races}

pub loop-m-init : goal.loop-m-init
loop-m-init c = latest_none (λ m. RacesAnywhere c.args.events.now m c.args.number)

pub loop-m-preserved : goal.loop-m-preserved
loop-m-preserved c =
    let R : ℕ → Type 0 = λ m. RacesAnywhere c.args.events.now m c.args.number in
    let Next : Option ℕ → Type 0 = λ found. Latest c.args.events.now c.args.number (c.loop-m.m + 1) found in
    elim c.if-races.branch [
      | then-races w ↦ subst Next (sym w.latest-is) (latest_here R c.loop-m.m (c.races.ensures.0 w.if-races.true))
      | else-races w ↦ subst Next (sym w.latest-is) (latest_before R c.loop-m.m c.loop-m.latest (λ r. apart w.if-races.false (c.races.ensures.1 r)) c.loop-m.invariant)
    ]

pub returns : goal.returns
returns c = latest_racing c.args.events.now c.args.number c.loop-m.m c.loop-m.latest (omega arith) c.loop-m.invariant
