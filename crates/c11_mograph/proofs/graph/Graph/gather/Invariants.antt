use Rattle.std.proofs.Common.{ℕ, take}
use Rattle.c11_mograph.specs.Made.{Made, OfOneCell, Ordered, with_pairs}
use Rattle.c11_mograph.specs.Parts.{Gathers, IsHeadOf}
use Rattle.c11_mograph.specs.Words.{Tracks, KeepsAllButClocks}
use Rattle.c11_mograph.proofs.graph.Graph.gather.Given as goal

abbrev pub invariant-loop-p : goal.invariant-loop-p
invariant-loop-p l = record {
  gathers : (made : Made) (x h : ℕ) → Tracks l.fn.self made → IsHeadOf l.fn.self x l.to h → OfOneCell made.stores l.prior x → Ordered (with_pairs made l.prior x)
      → Gathers l.fn.self l.self made (with_pairs made (take l.p-index l.prior) x) l.to h l.raised;
  same : KeepsAllButClocks l.fn.self l.self;
}
