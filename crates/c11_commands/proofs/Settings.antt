-- What the numbers of a command are within.
use Rattle.std.proofs.Common.{◌≡◌, ℕ, ◌+◌, ◌^◌, ◌<◌, ◌≤◌, Bool, true, false, ◌&&◌, List, [], ◌∷◌, Option, Some, None, IfSome, refl, subst, arith}
use Rattle.std.specs.Prelude.{◌%◌, ◌==◌, length, nat_le, if◌then◌else◌, codes}
use Rattle.std.specs.Str.{bytes_eq}
use Rattle.std.specs.Str.Parse.{digits_value}
use Rattle.std.proofs.lemmas.Bool.Decides.{nat_tests}
use Rattle.c11_commands.specs.declared.words.Command.{Command}
use Rattle.c11_commands.specs.declared.words.Command.TheVariants.{Help, Run, Campaign, Trial}
use Rattle.c11_commands.specs.declared.words.Seeds.{Seeds}
use Rattle.c11_commands.specs.declared.words.Limits.{Limits}
use Rattle.c11_commands.specs.Words.{Pair, is_numeral, number_within, setting, step_limits, seed_limits, count_limits, worker_limits, campaign_step_limits, trial_step_limits, number_limits, size_limits, values_of, option, run_with, seeds_with, seeds_of, campaign_with, campaign_of, trial_with, trial_of, help_of, run_of, are_known, command_of, pairs_of, reading, HasGoodNumbers}

-- the number lies within the limits
abbrev Within : Limits → ℕ → Type 0
Within limits n = (limits.least ≤ n) × (n ≤ limits.most)

-- the last seed is one too
abbrev AreGoodSeeds : Seeds → Type 0
AreGoodSeeds seeds = (0 < seeds.count) × (seeds.count ≤ 1000000) × (seeds.first + seeds.count ≤ 2 ^ 64)

-- what is chosen by a test
chosen_if : {A : Type 0} (P : A → Type 0) (b : Bool) (one other : Option A) → IfSome one P → IfSome other P → IfSome (if b then one else other) P
chosen_if P true one other p q = p
chosen_if P false one other p q = q

given_within : (limits : Limits) (value : List ℕ) → IfSome (number_within limits value) (Within limits)
given_within limits value = by_tests (is_numeral value) (nat_le limits.least (digits_value 10 value)) (nat_le (digits_value 10 value) limits.most) refl refl
  where
    by_tests : (a b d : Bool) → nat_le limits.least (digits_value 10 value) ≡ b → nat_le (digits_value 10 value) limits.most ≡ d
        → IfSome (if a && b && d then Some (digits_value 10 value) else None) (Within limits)
    by_tests true true true low high =
        let least : limits.least ≤ digits_value 10 value = grind (arith, nat_tests) in
        let most : digits_value 10 value ≤ limits.most = grind (arith, nat_tests) in (least, most)
    by_tests true true false low high = tt
    by_tests true false d low high = tt
    by_tests false b d low high = tt

setting_within : (limits : Limits) (values : List (List ℕ)) → limits.least ≤ limits.default → limits.default ≤ limits.most → IfSome (setting limits values) (Within limits)
setting_within limits [] low high = (low, high)
setting_within limits (value ∷ []) low high = given_within limits value
setting_within limits (value ∷ other ∷ more) low high = tt

run_good : (seed steps : Option ℕ) → IfSome steps (Within step_limits) → IfSome (run_with seed steps) HasGoodNumbers
run_good None steps within = tt
run_good (Some seed) None within = tt
run_good (Some seed) (Some steps) within = (omega (arith, within.0), within.1)

run_of_good : (pairs : List Pair) → IfSome (run_of pairs) HasGoodNumbers
run_of_good pairs = chosen_if HasGoodNumbers (are_known (codes "--seed" ∷ codes "--steps" ∷ []) pairs) _ None
    (run_good (setting seed_limits (values_of (codes "--seed") pairs)) (setting step_limits (values_of (codes "--steps") pairs))
    (setting_within step_limits (values_of (codes "--steps") pairs) (omega arith) (omega arith))) tt

seeds_good : (first count : Option ℕ) → IfSome count (Within count_limits) → IfSome (seeds_with first count) AreGoodSeeds
seeds_good None count within = tt
seeds_good (Some first) None within = tt
seeds_good (Some first) (Some count) within = by_last (nat_le (first + count) 18446744073709551616) refl
  where
    by_last : (b : Bool) → nat_le (first + count) 18446744073709551616 ≡ b → IfSome (if b then Some (record { first = first; count = count }) else None) AreGoodSeeds
    by_last true last = let low : first + count ≤ 18446744073709551616 = grind (arith, nat_tests) in (omega (arith, within.0), within.1, low)
    by_last false last = tt

seeds_of_good : (pairs : List Pair) → IfSome (seeds_of pairs) AreGoodSeeds
seeds_of_good pairs = seeds_good (option seed_limits (codes "--first") pairs) (option count_limits (codes "--count") pairs)
    (setting_within count_limits (values_of (codes "--count") pairs) (omega arith) (omega arith))

campaign_good : (limits : Limits) → limits.least ≡ 1 → limits.most ≡ 4000 → (seeds : Option Seeds) (steps workers : Option ℕ) → IfSome seeds AreGoodSeeds → IfSome steps (Within limits)
    → IfSome workers (Within worker_limits) → IfSome (campaign_with seeds steps workers) HasGoodNumbers
campaign_good limits least most None steps workers s b w = tt
campaign_good limits least most (Some seeds) None workers s b w = tt
campaign_good limits least most (Some seeds) (Some steps) None s b w = tt
campaign_good limits least most (Some seeds) (Some steps) (Some workers) s b w = record {
  some_seed = s.0;
  few_seeds = s.1;
  last_seed = s.2;
  some_step = omega (arith, b.0, least);
  few_steps = omega (arith, b.1, most);
  some_worker = omega (arith, w.0);
  few_workers = w.1;
}

campaign_of_good : (pairs : List Pair) → IfSome (campaign_of pairs) HasGoodNumbers
campaign_of_good pairs = chosen_if HasGoodNumbers (are_known (codes "--first" ∷ codes "--count" ∷ codes "--steps" ∷ codes "--workers" ∷ []) pairs) _ None
    (campaign_good campaign_step_limits refl refl (seeds_of pairs) (option campaign_step_limits (codes "--steps") pairs) (option worker_limits (codes "--workers") pairs) (seeds_of_good pairs)
    (setting_within campaign_step_limits (values_of (codes "--steps") pairs) (omega arith) (omega arith))
    (setting_within worker_limits (values_of (codes "--workers") pairs) (omega arith) (omega arith))) tt

trial_good : (number size : Option ℕ) (campaign : Option Command) → IfSome size (Within size_limits) → IfSome campaign HasGoodNumbers → IfSome (trial_with number size campaign) HasGoodNumbers
trial_good None size campaign s c = tt
trial_good (Some number) None campaign s c = tt
trial_good (Some number) (Some size) None s c = tt
trial_good (Some number) (Some size) (Some Help) s c = tt
trial_good (Some number) (Some size) (Some (Run seed steps)) s c = tt
trial_good (Some number) (Some size) (Some (Campaign first count steps workers)) s c = (omega (arith, s.0), s.1, c)
trial_good (Some number) (Some size) (Some (Trial n z first count steps workers)) s c = tt

trial_of_good : (pairs : List Pair) → IfSome (trial_of pairs) HasGoodNumbers
trial_of_good pairs = chosen_if HasGoodNumbers (are_known (codes "--number" ∷ codes "--size" ∷ codes "--first" ∷ codes "--count" ∷ codes "--steps" ∷ codes "--workers" ∷ []) pairs) _ None
    (trial_good (option number_limits (codes "--number") pairs) (option size_limits (codes "--size") pairs) _
    (setting_within size_limits (values_of (codes "--size") pairs) (omega arith) (omega arith))
    (campaign_good trial_step_limits refl refl (seeds_of pairs) (option trial_step_limits (codes "--steps") pairs) (option worker_limits (codes "--workers") pairs) (seeds_of_good pairs)
    (setting_within trial_step_limits (values_of (codes "--steps") pairs) (omega arith) (omega arith))
    (setting_within worker_limits (values_of (codes "--workers") pairs) (omega arith) (omega arith)))) tt

help_of_good : (pairs : List Pair) → IfSome (help_of pairs) HasGoodNumbers
help_of_good [] = tt
help_of_good (pair ∷ more) = tt

command_of_good : (name : List ℕ) (pairs : List Pair) → IfSome (command_of name pairs) HasGoodNumbers
command_of_good name pairs = chosen_if HasGoodNumbers (bytes_eq name (codes "run")) _ _ (run_of_good pairs)
    (chosen_if HasGoodNumbers (bytes_eq name (codes "campaign")) _ _ (campaign_of_good pairs)
    (chosen_if HasGoodNumbers (bytes_eq name (codes "trial")) _ _ (trial_of_good pairs)
    (chosen_if HasGoodNumbers (bytes_eq name (codes "help")) _ None (help_of_good pairs) tt)))

reading_good : (words : List (List ℕ)) → IfSome (reading words) HasGoodNumbers
reading_good [] = tt
reading_good (name ∷ options) = chosen_if HasGoodNumbers (length options % 2 == 0) _ None (command_of_good name (pairs_of options)) tt

pub reading_bound : (words : List (List ℕ)) (command : Command) → reading words ≡ Some command → HasGoodNumbers command
reading_bound words command is = subst (λ (o : Option Command). IfSome o HasGoodNumbers) is (reading_good words)
