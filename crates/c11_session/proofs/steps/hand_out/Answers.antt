use Rattle.std.proofs.Common.{◌<◌, arith}
use Rattle.c11_session.proofs.Dealing.{splits}
use Rattle.c11_session.proofs.steps.hand_out.Goals as goal

pub split_seat-requires : goal.split_seat-requires
split_seat-requires c =
    let seat = c.args.chair.now in
    let two = c.requires.two in
    let some_word : 0 < c.args.board.now.table_id.words = omega (arith, c.requires.table.1) in
    (c.requires.table.0, some_word, splits c.args.board.now.key seat.id seat.me.0 two.0 two.1 two.2 c.requires.idle c.requires.fresh two.3)
