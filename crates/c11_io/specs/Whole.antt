-- What a whole read and a whole write did. Where bytes are not told, nothing is said of them.
use Rattle.std.specs.Prelude.{◌≡◌, ℕ, ◌+◌, ◌<◌, ◌≤◌, List, length, take, drop, Option, None, Some, IfSome, ⊤, ◌⊎◌}
use Rattle.std.specs.Io.KnownBytes.{Appends, IsAtEnd}
use Rattle.c11_io.specs.Causes.{Rose}
use Rattle.c11_io.specs.declared.whole.ReadStop.{ReadStop}
use Rattle.c11_io.specs.declared.whole.ReadStop.TheVariants.{Fault, TooLong, NoMemory}

-- of what was left the first `count` bytes are gone
abbrev pub LosesFront : Option (List ℕ) → Option (List ℕ) → ℕ → Type 0
LosesFront None now count = ⊤
LosesFront (Some left) now count = (count ≤ length left) × (now ≡ Some (drop count left))

-- of what was left some first bytes are gone, at most `most`
abbrev pub LosesAtMost : Option (List ℕ) → Option (List ℕ) → ℕ → Type 0
LosesAtMost before now most = (count : ℕ) × (count ≤ most) × LosesFront before now count

-- a reading came to the end: it gave all bytes that were left, at most `limit`, and none is left
pub record ReadsWhole (before now : Option (List ℕ)) (limit : ℕ) (bytes : List ℕ) : Type 0 where
  pub all : IfSome before (λ left. bytes ≡ left)
  pub none_left : IsAtEnd now
  pub short : length bytes ≤ limit

-- a reading stopped: one byte more than the limit is gone where there were too many, and else at most the limit
abbrev pub StopsReading : Option (List ℕ) → Option (List ℕ) → ℕ → ReadStop → Type 0
StopsReading before now limit Fault = LosesAtMost before now limit
StopsReading before now limit TooLong = LosesFront before now (limit + 1)
StopsReading before now limit NoMemory = LosesAtMost before now limit

-- the count of faults rose where a read failed, and else it stayed
abbrev pub HasStopCause : ℕ → ℕ → ReadStop → Type 0
HasStopCause before now Fault = Rose before now
HasStopCause before now TooLong = now ≡ before
HasStopCause before now NoMemory = now ≡ before

-- a writing stopped: some first bytes were appended, and not all
abbrev pub AppendsPart : Option (List ℕ) → Option (List ℕ) → List ℕ → Type 0
AppendsPart before now bytes = (count : ℕ) × (count < length bytes) × Appends before now (take count bytes)

-- one of two counts rose, and the other stayed
abbrev pub OneRose : ℕ → ℕ → ℕ → ℕ → Type 0
OneRose faults faults' empties empties' = (Rose faults faults' × (empties' ≡ empties)) ⊎ ((faults' ≡ faults) × Rose empties empties')
