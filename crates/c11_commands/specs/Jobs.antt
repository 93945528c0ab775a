-- What each command is to its caller: what it reads, how it refuses that, and what it answers.
use Rattle.std.specs.Prelude.{◌≡◌, ℕ, Bool, true, false, List, Option, Some, None}
use Rattle.c11_events.specs.declared.entry.Entry.{Entry}
use Rattle.c11_events.specs.declared.verdict.Verdict.{Verdict}
use Rattle.c11_events.specs.EventOf.{events_of}
use Rattle.c11_events.specs.Lawful.{Consistent}
use Rattle.c11_events.specs.Offered.{Offered}
use Rattle.c11_check.specs.declared.checked.Checked.{Checked}
use Rattle.c11_check.specs.Checked.{IsChecked}
use Rattle.c11_machine.specs.Programs.{program_of}
use Rattle.c11_machine.specs.Runs.{OneRun}
use Rattle.c11_report.specs.declared.text.Mode.TheVariants as mode
use Rattle.c11_report.specs.declared.refusal.Refusal.{Refusal}
use Rattle.c11_report.specs.Execution.{execution_bytes, names_of}
use Rattle.c11_report.specs.declared.summary.Summary.{Summary}
use Rattle.c11_report.specs.Summaries.{summary_bytes}
use Rattle.c11_campaign.specs.Summaries.{IsSummary}
use Rattle.c11_ring.specs.Ring.{ring_bytes}
use Rattle.c11_accepts.specs.Texts.{Accepts, IsRefusedAs, longest}
use Rattle.c11_commands.specs.declared.words.Command.{Command}
use Rattle.c11_commands.specs.declared.words.Command.TheVariants.{Help, Run, Campaign, Trial}
use Rattle.c11_commands.specs.declared.words.Status.{Status}
use Rattle.c11_commands.specs.declared.words.Status.TheVariants.{Done, Usage}
use Rattle.c11_commands.specs.Statuses.{status_of, status_of_tallies}
use Rattle.c11_commands.specs.Usage.{usage_bytes}

pub record Job : Type 1 where
  -- whether it reads the source, and how many bytes at most
  pub reads : Bool
  pub most : ℕ
  -- whether it takes memory
  pub takes : Bool
  -- how it refuses what the source held
  pub refuses : List ℕ → Refusal → Type 0
  -- what it answers where it does not: the status, and the text
  pub answers : List ℕ → Status → List ℕ → Type 0

-- ---- the usage text

-- the usage text, with this status
abbrev pub usage_job : Status → Job
usage_job ends = record {
  reads = false;
  most = 0;
  takes = false;
  refuses = λ text refusal. ⊥;
  answers = λ text status bytes. (status ≡ ends) × (bytes ≡ usage_bytes);
}

-- ---- commands over a program

-- a command that reads a program, and answers so where the text is accepted
abbrev pub program_job : (List ℕ → Status → List ℕ → Type 0) → Job
program_job answers = record { reads = true; most = longest; takes = true; refuses = IsRefusedAs; answers = answers }

-- ---- `run`

-- the bytes are those of the one run of the checked program with the seed and the bound, and the status is its verdict's
pub record IsRunText (checked : Checked) (seed bound : ℕ) (status : Status) (bytes : List ℕ) : Type 0 where
  pub entries : List Entry
  pub verdict : Verdict
  pub run : OneRun Offered (program_of checked) seed bound entries verdict
  pub consistent : Consistent (events_of entries)
  pub ends : status ≡ status_of verdict
  pub printed : bytes ≡ execution_bytes (names_of checked) mode.Run seed bound entries verdict

-- The text is accepted, and the bytes are those of the one run of its program with the seed and the bound: each step is what its thread
-- asks for next on the replies that it had, and the stores offered to each read are exactly those whose reading keeps the events
-- consistent; some modification order makes the events consistent.
pub record IsRunOf (seed bound : ℕ) (text : List ℕ) (status : Status) (bytes : List ℕ) : Type 0 where
  pub checked : Checked
  pub accepted : Accepts text checked.program
  pub is : IsChecked checked.program checked
  pub run : IsRunText checked seed bound status bytes

abbrev pub run_job : ℕ → ℕ → Job
run_job seed bound = program_job (IsRunOf seed bound)

-- ---- `campaign` and `trial`

-- the bytes are those of the summary of the checked program's runs with these seeds and the bound, and the status is by what it counts
pub record IsSummaryText (checked : Checked) (first count bound : ℕ) (status : Status) (bytes : List ℕ) : Type 0 where
  pub summary : Summary
  pub is : IsSummary (program_of checked) first count bound summary
  pub ends : status ≡ status_of_tallies summary.tallies
  pub printed : bytes ≡ summary_bytes summary

-- the text is accepted, and the bytes are those of the summary of its program's runs
pub record IsCampaignOf (first count bound : ℕ) (text : List ℕ) (status : Status) (bytes : List ℕ) : Type 0 where
  pub checked : Checked
  pub accepted : Accepts text checked.program
  pub is : IsChecked checked.program checked
  pub sums : IsSummaryText checked first count bound status bytes

abbrev pub campaign_job : ℕ → ℕ → ℕ → Job
campaign_job first count bound = program_job (IsCampaignOf first count bound)

-- it reads nothing: its program is the ring of these numbers
abbrev pub trial_job : ℕ → ℕ → ℕ → ℕ → ℕ → Job
trial_job number size first count bound = record {
  reads = false;
  most = 0;
  takes = true;
  refuses = λ text refusal. ⊥;
  answers = λ text. IsCampaignOf first count bound (ring_bytes number size);
}

-- ---- all commands

-- the command that the words ask for; where they ask for none, the usage text is written
abbrev pub job_of : Option Command → Job
job_of None = usage_job Usage
job_of (Some Help) = usage_job Done
job_of (Some (Run seed bound)) = run_job seed bound
job_of (Some (Campaign first count bound workers)) = campaign_job first count bound
job_of (Some (Trial number size first count bound workers)) = trial_job number size first count bound
