use Rattle.std.proofs.Common.{◌<◌, arith}
use Rattle.c11_session.proofs.Turning.{polls}
use Rattle.c11_session.proofs.steps.poll.Goals as goal

pub load-requires : goal.load-requires
load-requires c =
    let seat = c.args.chair.now in
    let some_word : 1 < c.args.board.now.table_id.words = omega (arith, c.requires.table.1) in
    (c.requires.table.0, some_word, rw c.requires.empty (polls c.args.board.now.key _ seat.id seat.me.0 c.requires.waits.0 c.requires.waits.1))
