use Rattle.c11_asks.proofs.Asks.{begins}
use Rattle.c11_asks.proofs.tell.tells.Goals as goal

pub loop-row-init : goal.loop-row-init
loop-row-init c = begins c.in-Ok.checked.program c.start-thread.result c.start-thread.ensures.stands
