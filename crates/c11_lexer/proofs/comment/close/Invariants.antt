use Rattle.std.proofs.Common.{◌≡◌, ◌-◌, ◌≤◌, drop, length}
use Rattle.c11_lexer.specs.Reading.{close}
use Rattle.c11_lexer.proofs.CommentEnds.{ahead}
use Rattle.c11_lexer.proofs.comment.close.Given as goal

abbrev pub invariant-loop-at : goal.invariant-loop-at
invariant-loop-at l = (ahead l.at (close (drop l.at l.bytes)) ≡ close l.bytes) × (l.at ≤ length l.bytes)

abbrev pub decreases-loop-at : goal.decreases-loop-at
decreases-loop-at l = length l.bytes - l.at
