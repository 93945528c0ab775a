use Rattle.std.proofs.Common.{◌<◌, arith}
use Rattle.c11_session.proofs.Turning.{draws}
use Rattle.c11_session.proofs.steps.draw.Goals as goal

pub fetch_add-requires : goal.fetch_add-requires
fetch_add-requires c =
    let seat = c.args.chair.now in
    let some_word : 0 < c.args.board.now.table_id.words = omega (arith, c.requires.table.1) in
    (c.requires.table.0, some_word, draws c.args.board.now.key _ seat.id seat.me.0 seat.me.1 c.requires.may)
