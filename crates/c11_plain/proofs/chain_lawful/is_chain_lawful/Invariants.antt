use Rattle.c11_plain.proofs.ChainCells.{CellsBelow}
use Rattle.c11_plain.proofs.chain_lawful.is_chain_lawful.Given as goal

abbrev pub invariant-loop-event : goal.invariant-loop-event
invariant-loop-event l = CellsBelow l.events l.event-index
