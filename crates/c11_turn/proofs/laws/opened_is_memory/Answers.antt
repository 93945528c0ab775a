use Rattle.c11_turn.proofs.Opening.{opened_memory}
use Rattle.c11_turn.proofs.laws.opened_is_memory.Goals as goal

pub returns : goal.returns
returns c = opened_memory
