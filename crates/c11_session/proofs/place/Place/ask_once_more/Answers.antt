use Rattle.c11_session.specs.declared.place.Rest.TheVariants as rest
use Rattle.c11_session.specs.Places.{sitting_of}
use Rattle.c11_session.proofs.Composing.{again_looked, answers_looked, by_look, holds_at, keeps_after, not_over_yet}
use Rattle.std.proofs.Common.{◌∙◌}
use Rattle.c11_session.proofs.place.Place.ask_once_more.Goals as goal

pub returns : goal.returns
returns g c =
    let p = c.args.self.now in
    let mid = c.look.new.self in
    let q = c.play.new.self in
    let l = c.look.ensures.looks in
    let k = c.play.ensures.keeps in
    let blocked = holds_at p c.requires.seated (rest.Waits c.requires.waits.0 c.requires.waits.1) c.requires.waits.2 in
    let going = not_over_yet mid c.look.ensures.seated (c.look.ensures.over ∙ c.requires.going) in
    record {
      seated = c.play.ensures.seated;
      keeps = keeps_after (sitting_of p) (sitting_of mid) (sitting_of q) (by_look (sitting_of p) (sitting_of mid) c.look.result l) k;
      answers = answers_looked (sitting_of p) (sitting_of mid) (sitting_of q) c.look.result l k c.play.result c.play.ensures.answers going;
      again = again_looked (sitting_of p) (sitting_of mid) (sitting_of q) c.look.result l k blocked.goes_on c.play.ensures.again;
    }
