use Rattle.c11_session.proofs.Polling.{arrives_after}
use Rattle.c11_session.proofs.waiting.await_turn.Goals as goal

pub returns-then-is_served-clause-arrives : goal.returns-then-is_served-clause-arrives
returns-then-is_served-clause-arrives g c =
    arrives_after c.args.ticket c.args.chair.now.me c.loop.chair.me c.is_served.new.chair.me c.loop.invariant.waits (c.is_served.ensures.arrives c.if-is_served.true)
