-- Sessions: how one opens, and what it leaves.
use Rattle.std.specs.Prelude.{ℕ, ◌≡◌, false, List, [], ◌∷◌, map, reverse, length, Some, slice_get}
use Rattle.std.specs.List.{All, AllByRecursion}
use mathlib.Core.List.{IsPrefix}
use Rattle.atomic_table.specs.Seated.{TableId}
use Rattle.atomic_table.specs.declared.shared.Seat.{Seat}
use Rattle.c11_check.specs.declared.checked.Checked.{Checked}
use Rattle.c11_events.specs.declared.entry.Entry.{Entry}
use Rattle.c11_events.specs.declared.verdict.Verdict.{Verdict}
use Rattle.c11_events.specs.Replies.{thread_limit}
use Rattle.c11_events.specs.Steps.{own_steps}
use Rattle.c11_events.specs.Verdicts.{VerdictOf}
use Rattle.c11_flat.specs.Code.{Whole}
use Rattle.c11_machine.specs.Stands.{Stands}
use Rattle.c11_memory.specs.Execution.{Execution}
use Rattle.c11_turn.specs.declared.terms.Terms.{Terms}
use Rattle.c11_turn.specs.Hand.{FollowsTerms, IsMemoryOf, next_in}
use Rattle.c11_session.specs.declared.rule.Account.{Account}
use Rattle.c11_session.specs.declared.rule.Stage.TheVariants.{Idle}
use Rattle.c11_session.specs.declared.rule.View.{View}
use Rattle.c11_session.specs.Seats.{Sitting, TakesPart}
use Rattle.c11_session.specs.Turns.{Held, first_account, first_view}
use Rattle.c11_session.specs.Views.{countdown}

-- what contracts see of a session: its table; and the program, the seed and the bound
pub record Sharing : Type 0 where
  pub table : TableId
  pub terms : Terms

-- ---- the opening

-- the account of the seat of this thread: it has seen the Inits, and made, loaded and drawn nothing
abbrev pub fresh_account : Terms → ℕ → Account
fresh_account terms thread = record (first_account terms) { numbers = thread ∷ [] }

abbrev pub fresh_view : Terms → ℕ → View
fresh_view terms thread = record { stage = Idle; mine = fresh_account terms thread; gathered = [] }

-- the first view while it has the numbers below this one
abbrev pub with_numbers_below : Terms → ℕ → View
with_numbers_below terms n = record (first_view terms) { mine = record (first_account terms) { numbers = countdown n } }

-- the seat of this thread before it has done anything
pub record IsFresh (session : Sharing) (thread : ℕ) (s : Sitting) : Type 0 where
  pub table : s.table ≡ session.table
  pub terms : s.terms ≡ session.terms
  pub account : s.account ≡ fresh_account session.terms thread
  pub number : s.machine.number ≡ thread
  pub stands : (code : Whole) → Stands code s.machine []
  pub part : TakesPart s
  pub asks_nothing : s.has_ask ≡ false
  pub is_well : s.short ≡ false

-- one seat for each thread, at the place of its number
pub record AreFresh (session : Sharing) (seats : List Sitting) : Type 0 where
  pub all : length seats ≡ thread_limit
  pub each : (thread : ℕ) (s : Sitting) → slice_get seats thread ≡ Some s → IsFresh session thread s

abbrev pub AreTerms : Checked → ℕ → ℕ → Terms → Type 0
AreTerms checked seed bound terms = (terms.program.value ≡ checked) × (terms.seed ≡ seed) × (terms.bound ≡ bound)

-- the session is of this program, this seed and this bound, and has one fresh seat for each thread
pub record IsOpened (checked : Checked) (seed bound : ℕ) (session : Sharing) (seats : List Sitting) : Type 0 where
  pub terms : AreTerms checked seed bound session.terms
  pub fresh : AreFresh session seats

-- ---- the end

-- the seat at the table of a session's seat
pub record StandsFor (s : Sitting) (chair : Seat Held View) : Type 0 where
  pub same : chair.table_id ≡ s.table
  pub empty : chair.me.1 ≡ []
  pub idle : chair.me.0.stage ≡ Idle
  pub alone : chair.me.0.gathered ≡ []
  pub account : chair.me.0.mine ≡ s.account
  pub one : s.account.numbers ≡ s.machine.number ∷ []

-- one seat stands for these: it has their accounts, the last first
pub record Gathers (table : TableId) (seats : List Sitting) (chair : Seat Held View) : Type 0 where
  pub same : chair.table_id ≡ table
  pub idle : chair.me.0.stage ≡ Idle
  pub accounts : map (λ s. s.account) seats ≡ reverse (chair.me.0.mine ∷ chair.me.0.gathered)
  pub numbers : AllByRecursion (λ s. s.account.numbers ≡ s.machine.number ∷ []) seats

-- the history begins with what the seat had seen, and the steps of its thread there are what it made
pub record IsIn (history : List Entry) (s : Sitting) : Type 0 where
  pub seen : IsPrefix s.account.seen history
  pub made : own_steps history s.machine.number ≡ s.account.made

-- The memory is that of a history that follows, in which each seat took part. It keeps a verdict, which is that of the history.
pub record IsTaken (terms : Terms) (seats : List Sitting) (memory : Execution) : Type 0 where
  pub stands : IsMemoryOf terms memory.history memory
  pub follows : FollowsTerms terms memory.history
  pub verdict : Verdict
  pub kept : memory.verdict ≡ Some verdict
  pub ends : VerdictOf (next_in terms memory.history) terms.bound memory.history (Some verdict)
  pub each : All (IsIn memory.history) seats
