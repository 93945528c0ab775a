-- When a fault or an empty take may be answered.
use Rattle.std.specs.Prelude.{◌≡◌, ℕ, ◌+◌, ◌-◌, ◌^◌, ◌<◌, ◌≤◌, min, Result, OnOk, OnErr, IfOk, MatchResult}

-- a count raised by one, which stands still at the largest `u64`
abbrev pub raised : ℕ → ℕ
raised count = min (count + 1) (2 ^ 64 - 1)

-- a count is larger now, or stands at its end
abbrev pub Rose : ℕ → ℕ → Type 0
Rose before now = raised before ≤ now

-- the count of faults never falls, an error comes only where it rose, and with any other answer it stays
pub record HasCause {T E : Type 0} (before now : ℕ) (result : Result T E) : Type 0 where
  pub never_falls : before ≤ now
  pub failed : OnErr result (Rose before now)
  pub kept : OnOk result (now ≡ before)

-- the count of empty takes never falls, a take of nothing comes only where it rose, and with any other answer it stays
pub record HasEmptyCause {E : Type 0} (before now : ℕ) (result : Result ℕ E) : Type 0 where
  pub never_falls : before ≤ now
  pub empty : IfOk result (λ count. count ≡ 0 → Rose before now)
  pub kept : MatchResult result (λ count. 0 < count → now ≡ before) (λ _. now ≡ before)
