use Rattle.c11_run.proofs.Telling.{may_go_on}
use Rattle.c11_run.proofs.team.Member.tell.Goals as goal

pub advance-requires : goal.advance-requires
advance-requires c =
    may_go_on c.asks_where_wanted.ensures c.asks_again.ensures c.args.checked.now c.args.code.now c.args.self.now c.give.new.self c.args.reply.now c.requires.code c.requires.waits c.requires.kind c.give.ensures.stands
