use Rattle.std.proofs.Common.{◌<◌, arith}
use Rattle.c11_session.proofs.Dealing.{joins}
use Rattle.c11_session.proofs.steps.gather.Goals as goal

pub join_seat-requires : goal.join_seat-requires
join_seat-requires c =
    let seat = c.args.chair.now in
    let other = c.args.other in
    let some_word : 0 < c.args.board.now.table_id.words = omega (arith, c.requires.table.1) in
    (c.requires.table.0, c.requires.other_table, c.requires.empty, some_word, joins c.args.board.now.key seat.id seat.me.0 other.id other.me.0 c.requires.idle c.requires.other_idle c.requires.alone)
