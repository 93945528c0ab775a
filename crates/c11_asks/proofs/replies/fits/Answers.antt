use Rattle.c11_asks.proofs.Asks.{begun_fits}
use Rattle.c11_asks.proofs.replies.fits.Goals as goal

pub returns-in-Began : goal.returns-in-Began
returns-in-Began c = begun_fits c.args.op.now c.args.reply.now c.args.functions _ _ c.in-Begin.is c.in-Began.is
