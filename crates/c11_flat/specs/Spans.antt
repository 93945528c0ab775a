-- Arrays.
use Rattle.std.specs.Prelude.{ℕ}

-- the first place, cell or mutex of an array, and how many it has
pub record Span : Type 0 where
  pub base : ℕ
  pub size : ℕ
