use Rattle.std.proofs.Common.{refl, sym}
use Rattle.c11_shadow.proofs.Noted.{others_change_nothing}
use Rattle.c11_history.proofs.Racing.{none_touched, other_races, some_race, no_race, next_access}
use Rattle.c11_history.proofs.adding.note_access.Goals as goal

pub returns-in-Some-access-clause-race : goal.returns-in-Some-access-clause-race
returns-in-Some-access-clause-race c = λ events number stands kept.
    some_race events c.args.event.now c.in-Some.access number (sym c.in-Some.ensures) c.in-Some-access.first
    (c.in-Some-access.ensures.answer events c.args.event.now kept (next_access _ c.args.event.now _ _ (sym c.in-Some.ensures) c.clock-clock.ensures.last events number stands))

pub returns-in-None-access-clause-race : goal.returns-in-None-access-clause-race
returns-in-None-access-clause-race c = λ events number stands kept.
    no_race events c.args.event.now c.in-Some.access number (sym c.in-Some.ensures)
    (c.in-None-access.ensures.answer events c.args.event.now kept (next_access _ c.args.event.now _ _ (sym c.in-Some.ensures) c.clock-clock.ensures.last events number stands))

pub returns-in-None-access-clause-stands : goal.returns-in-None-access-clause-stands
returns-in-None-access-clause-stands c = λ events number stands kept none.
    c.in-None-access.ensures.stands events c.args.event.now kept (next_access _ c.args.event.now _ _ (sym c.in-Some.ensures) c.clock-clock.ensures.last events number stands) refl

pub returns-in-None-clause-race : goal.returns-in-None-clause-race
returns-in-None-clause-race c = λ events number stands kept. other_races events c.args.event.now (sym c.in-None.ensures)

pub returns-in-None-clause-stands : goal.returns-in-None-clause-stands
returns-in-None-clause-stands c = λ events number stands kept none.
    let quiet = none_touched c.args.event.now.kind (sym c.in-None.ensures) in
    others_change_nothing c.args.shadow.now events c.args.event.now kept stands.lawful.reads quiet.0 quiet.1
