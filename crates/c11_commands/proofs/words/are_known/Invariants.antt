use Rattle.std.proofs.Common.{◌≡◌, map, string_bytes, length}
use Rattle.c11_commands.specs.Words.{pairs_of, are_known}
use Rattle.c11_commands.proofs.words.are_known.Given as goal

abbrev pub invariant-loop-left : goal.invariant-loop-left
invariant-loop-left l = are_known (map (λ name. name.now) l.names) (pairs_of (map string_bytes l.left))
    ≡ are_known (map (λ name. name.now) l.names) (pairs_of (map string_bytes l.options))

abbrev pub decreases-loop-left : goal.decreases-loop-left
decreases-loop-left l = length l.left
