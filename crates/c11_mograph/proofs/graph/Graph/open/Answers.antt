use Rattle.c11_mograph.proofs.Opened.{stands_for_nothing, none_blank, all_blank}
use Rattle.c11_mograph.proofs.graph.Graph.open.Goals as goal

pub returns-clause-none : goal.returns-clause-none
returns-clause-none c = stands_for_nothing _ c.in_ok-numbers.ensures.items c.in_ok-lists.ensures.empty (all_blank _ _ _ c.in_ok-lasts.ensures) (none_blank _ c.in_ok-clocks.ensures.items)
