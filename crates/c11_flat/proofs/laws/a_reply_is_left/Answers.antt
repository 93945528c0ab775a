use Rattle.c11_flat.proofs.More.{a_reply_is_left}
use Rattle.c11_flat.proofs.laws.a_reply_is_left.Goals as goal

pub returns : goal.returns
returns c = a_reply_is_left
