-- The fields of a graph.
use Rattle.std.specs.Prelude.{ℕ, ◌≡◌, ◌≤◌, Some, length, vec_capacity}
use Rattle.c11_mograph.specs.declared.graph.Graph.TheInside.{Inside}
use Rattle.c11_mograph.specs.Heads.{AreLinked}
use Rattle.c11_mograph.specs.Lists.{HaveRoomBut}
use Rattle.c11_mograph.specs.Words.{Words, AreSafe}

abbrev pub words_of : Inside → Words
words_of g = record { threads = g.threads; size = g.size; numbers = g.numbers.items; kept = g.kept.items; lists = g.lists.items; lasts = g.lasts.items; clocks = record { rows = g.clocks.items; leads = g.leads.items }; ready = g.ready }

-- the places are within the tables, and a further store takes no memory but that of its cell's list and its clock
pub record IsSound (g : Inside) : Type 0 where
  pub safe : AreSafe (words_of g)
  pub linked : AreLinked g.kept.items g.newest.items
  pub cells : length g.newest.items ≡ length g.lists.items
  pub full : (cell : ℕ) → g.full ≡ Some cell → HaveRoomBut cell g.lists.items
  pub numbers_fit : g.size ≤ vec_capacity g.numbers
  pub kept_fit : g.size ≤ vec_capacity g.kept
  pub leads_fit : g.size ≤ vec_capacity g.leads
