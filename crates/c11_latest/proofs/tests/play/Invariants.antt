use Rattle.std.proofs.Common.{◌≡◌, ◌<◌, ◌≤◌, ℕ, length}
use Rattle.c11_latest.specs.Notes.{IsNoted}
use Rattle.c11_latest.proofs.tests.play.Given as goal

abbrev pub invariant-loop-number : goal.invariant-loop-number
invariant-loop-number g l = record {
  room : l.latest.room ≡ 48;
  count : length l.latest.notes ≤ l.number;
  below : (cell thread y : ℕ) → IsNoted l.latest.notes cell thread y → y < l.number;
}
