-- What contracts see of a standard reader and a standard writer.
use Rattle.std.specs.Prelude.{ℕ}

-- a reader, and how many of its reads have failed
pub record CountedReader (R : Type 0) : Type 0 where
  pub reader : R
  pub faults : ℕ

-- a writer, how many of its writes have failed, and how many others took nothing
pub record CountedWriter (W : Type 0) : Type 0 where
  pub writer : W
  pub faults : ℕ
  pub empties : ℕ
