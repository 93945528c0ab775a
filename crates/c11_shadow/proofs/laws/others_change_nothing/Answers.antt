use Rattle.c11_shadow.proofs.Noted.{others_change_nothing}
use Rattle.c11_shadow.proofs.laws.others_change_nothing.Goals as goal

pub returns : goal.returns
returns c = others_change_nothing
