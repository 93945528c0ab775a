-- Outputs of runs, with how often each was printed.
use Rattle.std.specs.Prelude.{ℕ, List}
use Rattle.std.specs.Cmp.Lexicographic.{slice_cmp}
use Rattle.std.specs.List.Sorted.{IsStrictlySortedBy}
use Rattle.std.specs.Map.{keys_of}
use Rattle.std.specs.Ordering.{nat_cmp}

-- the outputs ascend, byte by byte, and so each is there once
abbrev pub AreInOrder : List (List ℕ × ℕ) → Type 0
AreInOrder pairs = IsStrictlySortedBy (slice_cmp nat_cmp) (keys_of pairs)
