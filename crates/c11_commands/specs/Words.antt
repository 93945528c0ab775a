-- What the words of a command line ask for. A word is the list of its bytes.
use Rattle.std.specs.Prelude.{ℕ, ⊤, ◌+◌, ◌^◌, ◌<◌, ◌≤◌, Bool, ◌&&◌, ◌==◌, ◌%◌, List, [], ◌∷◌, length, map, filter, Option, Some, None, nat_lt, nat_le, codes, if◌then◌else◌}
use Rattle.std.specs.List.{list_all, list_any}
use Rattle.std.specs.Str.{bytes_eq, all_ascii_digits}
use Rattle.std.specs.Str.Parse.{digits_value}
use Rattle.c11_commands.specs.declared.words.Command.{Command}
use Rattle.c11_commands.specs.declared.words.Command.TheVariants.{Help, Run, Campaign, Trial}
use Rattle.c11_commands.specs.declared.words.Seeds.{Seeds}
use Rattle.c11_commands.specs.declared.words.Limits.{Limits}

-- an option's name, and the word that follows it
abbrev pub Pair : Type 0
Pair = List ℕ × List ℕ

-- the words in pairs, without a last one that stands alone
abbrev pub pairs_of : List (List ℕ) → List Pair
pairs_of [] = []
pairs_of (name ∷ []) = []
pairs_of (name ∷ value ∷ more) = (name, value) ∷ pairs_of more

-- whether each pair has one of these names
abbrev pub are_known : List (List ℕ) → List Pair → Bool
are_known names pairs = list_all (λ (pair : Pair). list_any (λ name. bytes_eq name pair.0) names) pairs

-- the values that the pairs give under a name
abbrev pub values_of : List ℕ → List Pair → List (List ℕ)
values_of name pairs = map (λ (pair : Pair). pair.1) (filter (λ (pair : Pair). bytes_eq pair.0 name) pairs)

-- whether a value is 1 to 20 decimal digits
abbrev pub is_numeral : List ℕ → Bool
is_numeral value = all_ascii_digits value && nat_lt 0 (length value) && nat_le (length value) 20

-- the number that a value writes, where it is one within the limits
abbrev pub number_within : Limits → List ℕ → Option ℕ
number_within limits value = let number = digits_value 10 value in
    if is_numeral value && nat_le limits.least number && nat_le number limits.most then Some number else None

-- the number of an option that is given these values: its default at none, and the number of a single one
abbrev pub setting : Limits → List (List ℕ) → Option ℕ
setting limits [] = Some limits.default
setting limits (value ∷ []) = number_within limits value
setting limits (value ∷ other ∷ more) = None

-- a seed is any number of 64 bits, by default 0
abbrev pub seed_limits : Limits
seed_limits = record { least = 0; most = 18446744073709551615; default = 0 }

-- a campaign has 1 to 1000000 seeds, by default 100
abbrev pub count_limits : Limits
count_limits = record { least = 1; most = 1000000; default = 100 }

-- 1 to 64 workers, by default 4
abbrev pub worker_limits : Limits
worker_limits = record { least = 1; most = 64; default = 4 }

-- each run of a campaign takes 1 to 4000 steps at most, by default 2000
abbrev pub campaign_step_limits : Limits
campaign_step_limits = record { least = 1; most = 4000; default = 2000 }

-- and each run of a trial by default 4000
abbrev pub trial_step_limits : Limits
trial_step_limits = record { least = 1; most = 4000; default = 4000 }

-- the number that a program is made from is any number of 64 bits, by default 0
abbrev pub number_limits : Limits
number_limits = record { least = 0; most = 18446744073709551615; default = 0 }

-- it passes 1 to 200 packets, by default 16
abbrev pub size_limits : Limits
size_limits = record { least = 1; most = 200; default = 16 }

-- a run takes 1 to 10000 steps at most, by default 2000
abbrev pub step_limits : Limits
step_limits = record { least = 1; most = 10000; default = 2000 }

-- one run, where both numbers are there
abbrev pub run_with : Option ℕ → Option ℕ → Option Command
run_with None steps = None
run_with (Some seed) None = None
run_with (Some seed) (Some steps) = Some (Run seed steps)

-- `run`, whose options are `--seed` and `--steps`
abbrev pub run_of : List Pair → Option Command
run_of pairs = if are_known (codes "--seed" ∷ codes "--steps" ∷ []) pairs
    then run_with (setting seed_limits (values_of (codes "--seed") pairs)) (setting step_limits (values_of (codes "--steps") pairs))
    else None

-- the number of an option that is given under a name, or its default
abbrev pub option : Limits → List ℕ → List Pair → Option ℕ
option limits name pairs = setting limits (values_of name pairs)

-- seeds, where the last of them is one too: a number of 64 bits
abbrev pub seeds_with : Option ℕ → Option ℕ → Option Seeds
seeds_with None count = None
seeds_with (Some first) None = None
seeds_with (Some first) (Some count) = if nat_le (first + count) 18446744073709551616 then Some (record { first = first; count = count }) else None

-- the seeds from `--first` on, `--count` of them
abbrev pub seeds_of : List Pair → Option Seeds
seeds_of pairs = seeds_with (option seed_limits (codes "--first") pairs) (option count_limits (codes "--count") pairs)

abbrev pub campaign_with : Option Seeds → Option ℕ → Option ℕ → Option Command
campaign_with None steps workers = None
campaign_with (Some seeds) None workers = None
campaign_with (Some seeds) (Some steps) None = None
campaign_with (Some seeds) (Some steps) (Some workers) = Some (Campaign seeds.first seeds.count steps workers)

-- `campaign`, whose options are `--first`, `--count`, `--steps` and `--workers`
abbrev pub campaign_of : List Pair → Option Command
campaign_of pairs = if are_known (codes "--first" ∷ codes "--count" ∷ codes "--steps" ∷ codes "--workers" ∷ []) pairs
    then campaign_with (seeds_of pairs) (option campaign_step_limits (codes "--steps") pairs) (option worker_limits (codes "--workers") pairs)
    else None

abbrev pub trial_with : Option ℕ → Option ℕ → Option Command → Option Command
trial_with None size campaign = None
trial_with (Some number) None campaign = None
trial_with (Some number) (Some size) (Some (Campaign first count steps workers)) = Some (Trial number size first count steps workers)
trial_with (Some number) (Some size) _ = None

-- `trial`, whose options are `--number` and `--size` and those of a campaign
abbrev pub trial_of : List Pair → Option Command
trial_of pairs = if are_known (codes "--number" ∷ codes "--size" ∷ codes "--first" ∷ codes "--count" ∷ codes "--steps" ∷ codes "--workers" ∷ []) pairs
    then trial_with (option number_limits (codes "--number") pairs) (option size_limits (codes "--size") pairs)
    (campaign_with (seeds_of pairs) (option trial_step_limits (codes "--steps") pairs) (option worker_limits (codes "--workers") pairs))
    else None

-- `help`, which has no options
abbrev pub help_of : List Pair → Option Command
help_of [] = Some Help
help_of (pair ∷ more) = None

-- the command of that name with these options
abbrev pub command_of : List ℕ → List Pair → Option Command
command_of name pairs = if bytes_eq name (codes "run") then run_of pairs
    else (if bytes_eq name (codes "campaign") then campaign_of pairs
    else (if bytes_eq name (codes "trial") then trial_of pairs
    else (if bytes_eq name (codes "help") then help_of pairs else None)))

-- what the words ask for: a command, and after it options in pairs
abbrev pub reading : List (List ℕ) → Option Command
reading [] = None
reading (name ∷ options) = if length options % 2 == 0 then command_of name (pairs_of options) else None

-- the numbers of a campaign lie within the limits of its options, and its last seed is one
pub record IsGoodCampaign (first count steps workers : ℕ) : Type 0 where
  pub some_seed : 0 < count
  pub few_seeds : count ≤ 1000000
  pub last_seed : first + count ≤ 2 ^ 64
  pub some_step : 0 < steps
  pub few_steps : steps ≤ 4000
  pub some_worker : 0 < workers
  pub few_workers : workers ≤ 64

-- the numbers of a command lie within the limits of its options
abbrev pub HasGoodNumbers : Command → Type 0
HasGoodNumbers Help = ⊤
HasGoodNumbers (Run seed steps) = (0 < steps) × (steps ≤ 10000)
HasGoodNumbers (Campaign first count steps workers) = IsGoodCampaign first count steps workers
HasGoodNumbers (Trial number size first count steps workers) = (0 < size) × (size ≤ 200) × IsGoodCampaign first count steps workers
