-- A chain-lawful list is consistent, by the layouts of its cells.
use Rattle.c11_events.specs.Laws.{ChainLawfulIsConsistent}
use Rattle.c11_events.proofs.Layouts.{layout_exists, layout_lawful}

pub consistent : ChainLawfulIsConsistent
consistent events c = record {
  reads = c.reads;
  orders = λ cell. (layout_exists events cell c).0;
  lawful = λ cell. let t = layout_exists events cell c in layout_lawful events cell t.0 c t.1;
}
