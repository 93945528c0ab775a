-- What a campaign keeps of its runs: how many ended each way, the least seed of these, and how often each output was printed.
use Rattle.std.specs.Prelude.{ℕ, ◌≡◌, ◌+◌, ◌<◌, ◌≤◌, Bool, true, false, List, [], Option, Some, None, All, Contains, take, flat_map, sum_by, count_by, if◌then◌else◌}
use Rattle.std.specs.Map.{values_of}
use Rattle.std.specs.Str.{bytes_eq}
use Rattle.c11_events.specs.declared.entry.Entry.{Entry}
use Rattle.c11_events.specs.declared.op.Op.{Op}
use Rattle.c11_events.specs.declared.op.Op.TheVariants.{Out}
use Rattle.c11_events.specs.declared.verdict.Verdict.{Verdict}
use Rattle.c11_events.specs.declared.verdict.Verdict.TheVariants as verdict
use Rattle.c11_report.specs.declared.summary.Summary.{Summary}
use Rattle.c11_report.specs.declared.tally.Tally.{Tally}
use Rattle.c11_report.specs.declared.tally.Tallies.{Tallies}
use Rattle.c11_report.specs.Outputs.{AreInOrder}

-- ---- runs

-- a run: its seed, how it ended, and what it printed, cut
pub record Ran : Type 0 where
  pub seed : ℕ
  pub verdict : Verdict
  pub output : List ℕ

-- the bytes of an Out
abbrev pub out_bytes : Op → List ℕ
out_bytes (Out bytes) = bytes
out_bytes _ = []

-- those of each Out of the history, in order
abbrev pub output_of : List Entry → List ℕ
output_of entries = flat_map (λ e. out_bytes e.op) entries

-- the first 256 bytes
abbrev pub cut : List ℕ → List ℕ
cut output = take 256 output

-- the run from the seed that ended so, with this history
abbrev pub ran_of : ℕ → Verdict → List Entry → Ran
ran_of seed verdict entries = record { seed = seed; verdict = verdict; output = cut (output_of entries) }

-- ---- how they ended

-- the words for how a run ends
pub data Word : Type 0 where
  done : Word
  bound : Word
  race : Word
  assert : Word
  fault : Word
  local : Word
  deadlock : Word

-- whether this is the verdict's word: a race has one word whatever the events, and a fault whatever its kind
abbrev pub has_word : Word → Verdict → Bool
has_word done verdict.Done = true
has_word bound verdict.Bound = true
has_word race (verdict.Race first second cell) = true
has_word assert verdict.Assert = true
has_word fault (verdict.Fault kind) = true
has_word local verdict.Local = true
has_word deadlock verdict.Deadlock = true
has_word _ _ = false

-- what is counted of a word
abbrev pub tally_at : Word → Tallies → Tally
tally_at done tallies = tallies.done
tally_at bound tallies = tallies.bound
tally_at race tallies = tallies.race
tally_at assert tallies = tallies.assert_
tally_at fault tallies = tallies.fault
tally_at local tallies = tallies.local
tally_at deadlock tallies = tallies.deadlock

-- the run is one of these, and ended with the word
pub record Ended (word : Word) (rans : List Ran) (ran : Ran) : Type 0 where
  pub among : Contains rans ran
  pub ends : has_word word ran.verdict ≡ true

-- the least seed of the runs that ended with the word, and `None` where there is no such run
abbrev pub IsLeastSeed : Word → List Ran → Option ℕ → Type 0
IsLeastSeed word rans None = (ran : Ran) → Ended word rans ran → ⊥
IsLeastSeed word rans (Some least) = ((ran : Ran) × Ended word rans ran × (ran.seed ≡ least)) × ((ran : Ran) → Ended word rans ran → least ≤ ran.seed)

-- how many of the runs ended with the word, and the least seed of these
pub record IsTallyOf (word : Word) (rans : List Ran) (tally : Tally) : Type 0 where
  pub count : tally.count ≡ count_by (λ (ran : Ran). has_word word ran.verdict) rans
  pub least : IsLeastSeed word rans tally.least

-- so it is for each word
abbrev pub AreTalliesOf : List Ran → Tallies → Type 0
AreTalliesOf rans tallies = (word : Word) → IsTallyOf word rans (tally_at word tallies)

-- ---- what they printed

-- how often the bytes are listed: the count of the pair that has them, and 0 where none has
abbrev pub listed : List (List ℕ × ℕ) → List ℕ → ℕ
listed pairs bytes = sum_by (λ (pair : List ℕ × ℕ). if bytes_eq pair.0 bytes then pair.1 else 0) pairs

-- the counts of all pairs
abbrev pub counted : List (List ℕ × ℕ) → ℕ
counted pairs = sum_by (λ (pair : List ℕ × ℕ). pair.1) pairs

-- each count is above 0
abbrev pub AreSome : List (List ℕ × ℕ) → Type 0
AreSome pairs = All (λ count. 0 < count) (values_of pairs)

-- the outputs of the runs in the order of their bytes, each once, with how many runs printed it
pub record AreOutputsOf (rans : List Ran) (pairs : List (List ℕ × ℕ)) : Type 0 where
  pub ordered : AreInOrder pairs
  pub some : AreSome pairs
  pub counts : (bytes : List ℕ) → listed pairs bytes ≡ count_by (λ (ran : Ran). bytes_eq ran.output bytes) rans

-- ---- both

-- what is kept of runs
pub record Kept : Type 0 where
  pub tallies : Tallies
  pub outputs : List (List ℕ × ℕ)

-- what a summary tells of the runs
abbrev pub kept_in : Summary → Kept
kept_in summary = record { tallies = summary.tallies; outputs = summary.outputs }

-- this is what is to be kept of the runs
pub record StandsFor (kept : Kept) (rans : List Ran) : Type 0 where
  pub tallies : AreTalliesOf rans kept.tallies
  pub outputs : AreOutputsOf rans kept.outputs

-- how many runs were counted
abbrev pub runs : Tallies → ℕ
runs tallies = tallies.done.count + tallies.bound.count + tallies.race.count + tallies.assert_.count + tallies.fault.count + tallies.local.count + tallies.deadlock.count
