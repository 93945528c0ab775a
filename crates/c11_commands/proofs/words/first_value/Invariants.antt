use Rattle.std.proofs.Common.{◌≡◌, map, string_bytes, length}
use Rattle.c11_commands.specs.Words.{pairs_of, values_of}
use Rattle.c11_commands.proofs.words.first_value.Given as goal

abbrev pub invariant-loop-left : goal.invariant-loop-left
invariant-loop-left l =
    values_of l.name (pairs_of (map string_bytes l.left)) ≡ values_of l.name (pairs_of (map string_bytes l.options))

abbrev pub decreases-loop-left : goal.decreases-loop-left
decreases-loop-left l = length l.left
