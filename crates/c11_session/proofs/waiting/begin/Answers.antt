use Rattle.c11_session.proofs.Polling.{begins}
use Rattle.c11_session.proofs.waiting.begin.Goals as goal

pub returns-clause-begins : goal.returns-clause-begins
returns-clause-begins g c =
    begins c.draw-ticket.result c.args.chair.now.me c.draw-ticket.new.chair.me c.await_turn.new.chair.me c.exchange.new.chair.me c.in-Some.memory
    c.draw-ticket.ensures.drawn c.await_turn.ensures.arrives c.in-Some.ensures.before c.in-Some.ensures.after
