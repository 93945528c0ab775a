use Rattle.std.proofs.Common.{◌≡◌, ◌+◌, ◌≤◌, ℕ, length}
use Rattle.c11_mograph.specs.Heads.{IsHead}
use Rattle.c11_mograph.specs.Spread.{row, AreWide, IsSpread}
use Rattle.c11_mograph.proofs.clocks.spread.Given as goal

abbrev pub invariant-loop-next : goal.invariant-loop-next
invariant-loop-next l = record {
  spread : IsSpread l.kept l.fn.clocks l.clocks l.next l.from l.cell l.thread l.number;
  wide : AreWide (length (row l.fn.clocks l.from)) l.clocks;
  within : l.next ≤ length l.kept;
  head : (place : ℕ) → l.next ≡ place + 1 → IsHead l.kept l.cell place;
}

abbrev pub decreases-loop-next : goal.decreases-loop-next
decreases-loop-next l = l.next
