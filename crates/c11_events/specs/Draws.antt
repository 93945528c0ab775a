-- The words of the generator of a seed, and what is chosen by them (this project's own).
use Rattle.std.specs.Prelude.{ℕ, ◌%◌, nat_lt, if◌then◌else◌}
use Rattle.rand_pcg.specs.Lcg.{Lcg, started, increment_of, advance}
use Rattle.rand_pcg.specs.Pcg.{multiplier_64, pcg32}

-- `Lcg64Xsh32::new(seed, 1442695040888963407)`
unfoldable pub generator : ℕ → Lcg
generator seed = started 64 multiplier_64 seed (increment_of 64 1442695040888963407)

-- the generator after so many words
abbrev pub after_words : ℕ → ℕ → Lcg
after_words seed count = advance 64 multiplier_64 count (generator seed)

-- word k of the seed, from 0
abbrev pub draw : ℕ → ℕ → ℕ
draw seed k = (pcg32 (after_words seed k)).0

-- the place that is chosen among so many, with word k as the next; a choice among fewer than two takes no word
abbrev pub chosen : ℕ → ℕ → ℕ → ℕ
chosen seed k choices = if nat_lt choices 2 then 0 else draw seed k % choices

-- how many words the choice takes
abbrev pub words_for : ℕ → ℕ
words_for choices = if nat_lt choices 2 then 0 else 1
