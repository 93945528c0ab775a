-- What the workers of a campaign did with the numbers that they claimed.
use Rattle.std.specs.Prelude.{ℕ, ◌≡◌, ◌+◌, ◌<◌, ◌≤◌, List, [], length, map, filter, nat_lt, All, sum_by, IfOk}
use Rattle.c11_claims.specs.Claims.{Counter, hand, times, once_below, beyond}
use Rattle.c11_machine.specs.Runs.{Program}
use Rattle.c11_tally.specs.Tallies.{Ran, Kept, StandsFor, runs}
use Rattle.c11_campaign.specs.declared.hunt.Worker.{Worker}
use Rattle.c11_campaign.specs.declared.hunt.Worked.{Worked}
use Rattle.c11_campaign.specs.Summaries.{IsRan}

-- the numbers below the count
abbrev pub below : ℕ → List ℕ → List ℕ
below count numbers = filter (λ n. nat_lt n count) numbers

-- one run of each seed that belongs to these numbers was tallied
pub record HasRun (program : Program) (first bound : ℕ) (numbers : List ℕ) (tallied : Kept) : Type 0 where
  pub rans : List Ran
  pub stands : StandsFor tallied rans
  pub each : All (IsRan program bound) rans
  pub seeds : map (λ (ran : Ran). ran.seed) rans ≡ map (λ n. first + n) numbers
  pub counted : runs tallied.tallies ≡ length numbers

-- a worker that claimed until none was left, and tallied the run of each number below the count
pub record HasWorked (program : Program) (first bound : ℕ) (claims : Counter) (claimed : List ℕ) (tallied : Kept) : Type 0 where
  pub run : HasRun program first bound (below claims.count claimed) tallied
  pub ended : 0 < beyond claims.count claimed
  pub few : length claimed ≤ claims.count + 1

-- ---- all workers

-- the shares of all their seats
abbrev pub worker_shares : List Worker → ℕ
worker_shares workers = sum_by (λ (w : Worker). w.claimer.shares) workers

abbrev pub worked_shares : List Worked → ℕ
worked_shares worked = sum_by (λ (w : Worked). w.claimer.shares) worked

-- it has a seat of these claims and has claimed nothing
abbrev pub IsFresh : Counter → Worker → Type 0
IsFresh claims w = w.claimer ≡ hand claims w.claimer.shares []

-- each is fresh, and they have all shares
pub record AreDealt (claims : Counter) (workers : List Worker) : Type 0 where
  pub each : All (IsFresh claims) workers
  pub shares : worker_shares workers ≡ 64

-- what a worker gives back
pub record IsWorked (program : Program) (first bound : ℕ) (claims : Counter) (w : Worked) : Type 0 where
  pub here : w.claimer.claims ≡ claims
  pub tallied : IfOk w.tallied (HasWorked program first bound claims w.claimer.claimed)

-- what this worker gives back
pub record Gives (program : Program) (first bound : ℕ) (claims : Counter) (w : Worker) (worked : Worked) : Type 0 where
  pub shares : worked.claimer.shares ≡ w.claimer.shares
  pub is : IsWorked program first bound claims worked

-- each has worked, and they have all shares
pub record AreWorked (program : Program) (first bound : ℕ) (claims : Counter) (worked : List Worked) : Type 0 where
  pub each : All (IsWorked program first bound claims) worked
  pub shares : worked_shares worked ≡ 64

-- the run of each number below the count was tallied once, and no other
pub record HasRunAll (program : Program) (first count bound : ℕ) (tallied : Kept) : Type 0 where
  pub numbers : List ℕ
  pub run : HasRun program first bound numbers tallied
  pub once : (n : ℕ) → times n numbers ≡ once_below n count
