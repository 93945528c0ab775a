use Rattle.std.proofs.Common.{◌∙◌, sym}
use Rattle.c11_session.proofs.Fresh.{same_terms}
use Rattle.c11_session.proofs.opening.same.Goals as goal

pub returns : goal.returns
returns c = same_terms _ _ (c.of.ensures.program ∙ sym c.requires) c.of.ensures.seed c.of.ensures.bound
