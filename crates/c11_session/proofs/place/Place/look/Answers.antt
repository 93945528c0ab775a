use Rattle.std.proofs.Common.{◌≡◌, length, subst, sym}
use Rattle.c11_session.specs.declared.place.Rest.{Rest}
use Rattle.c11_session.specs.Places.{IsSeated, sitting_of}
use Rattle.c11_session.specs.Seats.{Looks}
use Rattle.c11_session.proofs.Looking.{has_looked, still_seated}
use Rattle.c11_session.proofs.place.Place.look.Goals as goal

pub returns-clause-seated : goal.returns-clause-seated
returns-clause-seated c =
    let l = c.look.ensures.seen in
    let p = c.args.self.now in
    let long : c.of-front.result.length ≡ length c.look.new.chair.me.0.mine.seen = c.of-front.ensures.length l.served _ c.look.new.chair.me.0.mine.stopped l.sees.fits l.sees.front in
    let stops : c.of-front.result.stopped ≡ c.look.new.chair.me.0.mine.stopped = c.of-front.ensures.stopped l.served _ c.look.new.chair.me.0.mine.stopped l.sees.front in
    subst (λ (r : Rest). IsSeated record p { chair = c.look.new.chair; rest = r }) (sym c.after-self.ensures)
    (still_seated c.asks_are_legal.ensures p c.look.new.chair c.look.result c.of-front.result c.requires.seated l long stops)

pub returns-clause-looks : goal.returns-clause-looks
returns-clause-looks c =
    let l = c.look.ensures.seen in
    let p = c.args.self.now in
    let long : c.of-front.result.length ≡ length c.look.new.chair.me.0.mine.seen = c.of-front.ensures.length l.served _ c.look.new.chair.me.0.mine.stopped l.sees.fits l.sees.front in
    let stops : c.of-front.result.stopped ≡ c.look.new.chair.me.0.mine.stopped = c.of-front.ensures.stopped l.served _ c.look.new.chair.me.0.mine.stopped l.sees.front in
    subst (λ (r : Rest). Looks (sitting_of p) (sitting_of record p { chair = c.look.new.chair; rest = r }) c.of-front.result) (sym c.after-self.ensures)
    (has_looked c.asks_are_legal.ensures p c.look.new.chair c.look.result c.of-front.result c.requires.seated l long stops c.look.ensures.table)
