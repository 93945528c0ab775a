-- What is due of a campaign, and of a trial.
use Rattle.std.proofs.Common.{◌≡◌, ℕ, Bool, true, false, if◌then◌else◌, nat_lt, refl, sym, subst}
use Rattle.c11_report.specs.declared.tally.Tallies.{Tallies}
use Rattle.c11_accepts.specs.Laws.{NotBoth}
use Rattle.c11_commands.specs.declared.words.Status.TheVariants.{Done, Found, Bound}
use Rattle.c11_commands.specs.Statuses.{found_some, status_of_tallies, IsAnswer}
use Rattle.c11_commands.specs.Jobs.{campaign_job, trial_job}
use Rattle.c11_commands.proofs.Answering.{IsGood}

chosen_ends : (found bound : Bool) → IsAnswer (if found then Found else (if bound then Bound else Done))
chosen_ends true bound = tt
chosen_ends false true = tt
chosen_ends false false = tt

-- a campaign ends with a status of an answer
sum_ends : (t : Tallies) → IsAnswer (status_of_tallies t)
sum_ends t = chosen_ends (found_some t) (nat_lt 0 t.bound.count)

-- and no text that is refused has one
pub good_campaign : NotBoth → (first count bound : ℕ) → IsGood (campaign_job first count bound)
good_campaign apart first count bound = record {
  ends = λ text status bytes r. subst IsAnswer (sym r.sums.ends) (sum_ends r.sums.summary.tallies);
  apart = λ text status bytes refusal r is. apart text r.checked.program refusal r.accepted is;
}

-- a trial refuses nothing
pub good_trial : (number size first count bound : ℕ) → IsGood (trial_job number size first count bound)
good_trial number size first count bound = record {
  ends = λ text status bytes r. subst IsAnswer (sym r.sums.ends) (sum_ends r.sums.summary.tallies);
  apart = λ text status bytes refusal r none. none;
}
