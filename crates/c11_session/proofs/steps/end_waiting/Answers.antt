use Rattle.std.proofs.Common.{◌<◌, arith}
use Rattle.c11_session.specs.Steps.{waits}
use Rattle.c11_session.proofs.Turning.{turn_ends}
use Rattle.c11_session.proofs.steps.end_waiting.Goals as goal

pub swap-requires : goal.swap-requires
swap-requires c =
    let seat = c.args.chair.now in
    let may = c.requires.may in
    let some_word : 1 < c.args.board.now.table_id.words = omega (arith, c.requires.table.1) in
    (c.requires.table.0, some_word, rw may.in_hand (turn_ends waits c.args.board.now.key _ seat.id seat.me.0 seat.me.1 c.args.word may))
