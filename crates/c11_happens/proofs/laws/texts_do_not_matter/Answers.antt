use Rattle.c11_happens.proofs.Texts.{texts_do_not_matter}
use Rattle.c11_happens.proofs.laws.texts_do_not_matter.Goals as goal

pub returns : goal.returns
returns c = texts_do_not_matter
