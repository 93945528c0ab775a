-- The laws of what a campaign keeps.
use Rattle.std.specs.Prelude.{ℕ, ◌≡◌, ◌+◌, List, ◌++◌, length}
use Rattle.std.specs.List.Sorted.{IsPermutation}
use Rattle.c11_report.specs.declared.tally.Tallies.{Tallies}
use Rattle.c11_report.specs.Outputs.{AreInOrder}
use Rattle.c11_report.specs.Summaries.{HaveLeasts}
use Rattle.c11_tally.specs.Joined.{joined_tallies}
use Rattle.c11_tally.specs.Tallies.{Ran, AreTalliesOf, AreOutputsOf, AreSome, listed, counted, runs, Kept, StandsFor}

-- the tallies of two lists of runs, put together, are those of all the runs
abbrev pub TalliesJoin : Type 0
TalliesJoin = (xs ys : List Ran) (a b : Tallies) → AreTalliesOf xs a → AreTalliesOf ys b → AreTalliesOf (xs ++ ys) (joined_tallies a b)

-- the list has each output as often as the two lists together
pub record AreJoined (a b pairs : List (List ℕ × ℕ)) : Type 0 where
  pub ordered : AreInOrder pairs
  pub some : AreSome pairs
  pub counts : (bytes : List ℕ) → listed pairs bytes ≡ listed a bytes + listed b bytes

-- so are their outputs
abbrev pub OutputsJoin : Type 0
OutputsJoin = (xs ys : List Ran) (a b pairs : List (List ℕ × ℕ)) → AreOutputsOf xs a → AreOutputsOf ys b → AreJoined a b pairs → AreOutputsOf (xs ++ ys) pairs

-- the order of the runs does not matter
abbrev pub OrderIsFree : Type 0
OrderIsFree = (xs ys : List Ran) (kept : Kept) → IsPermutation xs ys → StandsFor kept xs → StandsFor kept ys

-- what is to be kept of the runs is one
abbrev pub KeptIsOne : Type 0
KeptIsOne = (rans : List Ran) (kept other : Kept) → StandsFor kept rans → StandsFor other rans → kept ≡ other

-- each run is counted for one word
abbrev pub RunsAreCounted : Type 0
RunsAreCounted = (rans : List Ran) (tallies : Tallies) → AreTalliesOf rans tallies → runs tallies ≡ length rans

-- each run is counted for one output
abbrev pub OutputsAreCounted : Type 0
OutputsAreCounted = (rans : List Ran) (pairs : List (List ℕ × ℕ)) → AreOutputsOf rans pairs → counted pairs ≡ length rans

-- there is a least seed exactly where a run was counted
abbrev pub TalliesHaveLeasts : Type 0
TalliesHaveLeasts = (rans : List Ran) (tallies : Tallies) → AreTalliesOf rans tallies → HaveLeasts tallies
