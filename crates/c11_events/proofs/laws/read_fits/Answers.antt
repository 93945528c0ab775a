use Rattle.c11_events.proofs.Fitting.{read_fits}
use Rattle.c11_events.proofs.laws.read_fits.Goals as goal

pub returns : goal.returns
returns c = read_fits
