use Rattle.std.proofs.Common.{◌≡◌, max, length, take}
use Rattle.c11_check.proofs.scopes.Scopes.leave.Given as goal

abbrev pub invariant-loop-self : goal.invariant-loop-self
invariant-loop-self l = record {
  names : l.self.names ≡ take (max l.mark.names (length l.self.names)) l.initial.self.names;
  start : l.self.start ≡ l.initial.self.start;
  counts : l.self.counts ≡ l.initial.self.counts;
}

abbrev pub decreases-loop-self : goal.decreases-loop-self
decreases-loop-self l = length l.self.names
