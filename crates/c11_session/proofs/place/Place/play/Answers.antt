use Rattle.c11_session.proofs.Composing.{again_played, answers_played, keeps_played, not_over_yet}
use Rattle.c11_session.proofs.place.Place.play.Goals as goal

pub returns : goal.returns
returns g c =
    let p = c.args.self.now in
    let mid = c.take_turn-played.new.self in
    let q = c.finish.new.self in
    let going = not_over_yet p c.requires.seated c.requires.going in
    let came = c.take_turn-played.ensures.came in
    let k = c.finish.ensures.keeps in
    record {
      seated = c.finish.ensures.seated;
      keeps = keeps_played p mid q c.finish.result c.requires.seated going c.requires.ready came k;
      answers = answers_played p mid q c.finish.result c.requires.seated going c.requires.ready came k c.finish.ensures.tells c.finish.ensures.counts c.finish.ensures.short;
      again = again_played p mid q c.finish.result c.requires.seated going c.requires.ready came k;
    }
