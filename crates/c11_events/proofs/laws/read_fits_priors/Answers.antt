use Rattle.c11_events.proofs.Acquiring.{read_fits_priors}
use Rattle.c11_events.proofs.laws.read_fits_priors.Goals as goal

pub returns : goal.returns
returns c = read_fits_priors
