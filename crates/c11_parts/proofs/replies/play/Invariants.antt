use Rattle.std.proofs.Common.{◌≡◌, length}
use Rattle.c11_parts.proofs.replies.play.Given as goal

abbrev pub invariant-loop-line : goal.invariant-loop-line
invariant-loop-line l = record { threads : length l.replies.threads ≡ 16; mutexes : length l.replies.mutexes ≡ 2; values : length l.replies.values ≡ 2 }
