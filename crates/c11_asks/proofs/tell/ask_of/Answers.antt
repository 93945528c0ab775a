use Rattle.c11_asks.proofs.Asks.{may_ask}
use Rattle.c11_asks.proofs.tell.ask_of.Goals as goal

pub advance-requires : goal.advance-requires
advance-requires c = may_ask c.asks_where_wanted.ensures c.args.checked.now.program c.args.code.now c.args.thread.now c.requires.code c.requires.asking
