-- The outputs in a map, as pairs.
use Rattle.std.specs.Prelude.{ℕ, ◌≡◌, ◌+◌, ◌<◌, ◌≤◌, List, map, Vec, if◌then◌else◌}
use Rattle.std.specs.Str.{bytes_eq}
use Rattle.c11_report.specs.Outputs.{AreInOrder}
use Rattle.c11_tally.specs.Tallies.{AreSome, listed}

-- a map's entries, read as pairs of bytes and a count
abbrev pub pairs_of : {Z : Type 0} → List (Vec ℕ Z × ℕ) → List (List ℕ × ℕ)
pairs_of {Z} entries = map (λ (e : Vec ℕ Z × ℕ). (e.0.items, e.1)) entries

-- the pairs became these: the bytes are listed so much more often, and each other output as before
pub record Raises (bytes : List ℕ) (by : ℕ) (old new : List (List ℕ × ℕ)) : Type 0 where
  pub ordered : AreInOrder old → AreInOrder new
  pub some : 0 < by → AreSome old → AreSome new
  pub counts : (other : List ℕ) → listed new other ≡ listed old other + (if bytes_eq bytes other then by else 0)

-- the pairs became these: each output is listed as often as in them and in the others together
pub record Adds (others old new : List (List ℕ × ℕ)) : Type 0 where
  pub ordered : AreInOrder old → AreInOrder new
  pub some : AreSome others → AreSome old → AreSome new
  pub counts : (bytes : List ℕ) → listed new bytes ≡ listed old bytes + listed others bytes

-- no more than these were added
abbrev pub AddsAtMost : List (List ℕ × ℕ) → List (List ℕ × ℕ) → List (List ℕ × ℕ) → Type 0
AddsAtMost others old new = (bytes : List ℕ) → listed new bytes ≤ listed old bytes + listed others bytes
