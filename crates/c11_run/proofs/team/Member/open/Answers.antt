use Rattle.std.proofs.Common.{[]}
use Rattle.c11_run.proofs.Telling.{asks_first, may_ask}
use Rattle.c11_run.proofs.team.Member.open.Goals as goal

pub advance-requires : goal.advance-requires
advance-requires c =
    may_ask c.asks_where_wanted.ensures c.args.checked.now.program c.args.code.now c.start-thread.result [] _ c.requires (asks_first c.args.checked.now.program) (c.start-thread.ensures.stands c.args.code.now)
