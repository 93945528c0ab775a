-- What contracts see of a source and of a sink in memory.
use Rattle.std.specs.Prelude.{ℕ, ◌-◌, ◌≤◌, ◌==◌, min, List, length, Contains, ◌⊎◌, if◌then◌else◌}
use Rattle.c11_io.specs.Causes.{raised}

-- a source: the bytes left, the most that a call gives (0 is no limit), the numbers of the calls that fail, and how many calls and faults there were
pub record MemorySource : Type 0 where
  pub left : List ℕ
  pub per_read : ℕ
  pub failing : List ℕ
  pub calls : ℕ
  pub faults : ℕ

-- a sink: the bytes taken, how many fit, the most that a call takes (0 is no limit), the numbers of the calls that fail, and how many calls and faults there were
pub record MemorySink : Type 0 where
  pub taken : List ℕ
  pub room : ℕ
  pub per_write : ℕ
  pub failing : List ℕ
  pub calls : ℕ
  pub faults : ℕ

-- at most `most` of `count` bytes, where 0 is no limit
abbrev pub limited : ℕ → ℕ → ℕ
limited most count = if most == 0 then count else min most count

-- the next read is one that fails
abbrev pub FailsToRead : MemorySource → Type 0
FailsToRead source = Contains source.failing (raised source.calls)

-- the next write is one that fails, or no byte is free
abbrev pub FailsToWrite : MemorySink → Type 0
FailsToWrite sink = Contains sink.failing (raised sink.calls) ⊎ (sink.room ≤ length sink.taken)

-- how many bytes a good read gives into a buffer of this size
abbrev pub given_count : MemorySource → ℕ → ℕ
given_count source size = limited source.per_read (min size (length source.left))

-- how many bytes a good write takes of so many
abbrev pub taken_count : MemorySink → ℕ → ℕ
taken_count sink offered = limited sink.per_write (min offered (sink.room - length sink.taken))
