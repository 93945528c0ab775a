-- What is due of a run.
use Rattle.std.proofs.Common.{ℕ, sym, subst}
use Rattle.c11_events.specs.declared.verdict.Verdict.{Verdict}
use Rattle.c11_events.specs.declared.verdict.Verdict.TheVariants as verdict
use Rattle.c11_accepts.specs.Laws.{NotBoth}
use Rattle.c11_commands.specs.Statuses.{status_of, IsAnswer}
use Rattle.c11_commands.specs.Jobs.{run_job}
use Rattle.c11_commands.proofs.Answering.{IsGood}

-- a run ends with a status of an answer, and no text that is refused has one
run_ends : (v : Verdict) → IsAnswer (status_of v)
run_ends verdict.Done = tt
run_ends verdict.Bound = tt
run_ends _ = tt

pub good_run : NotBoth → (seed bound : ℕ) → IsGood (run_job seed bound)
good_run apart seed bound = record {
  ends = λ text status bytes r. subst IsAnswer (sym r.run.ends) (run_ends r.run.verdict);
  apart = λ text status bytes refusal r is. apart text r.checked.program refusal r.accepted is;
}
