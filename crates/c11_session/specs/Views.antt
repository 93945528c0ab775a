-- Views of seats, their accounts, and what is counted over them.
use Rattle.std.specs.Prelude.{ℕ, zero, suc, ◌≡◌, ◌+◌, ◌*◌, ◌<◌, Bool, true, false, List, [], ◌∷◌, Option, Some, None, if◌then◌else◌, nat_eq, nat_lt}
use Rattle.std.specs.List.{AllByRecursion}
use mathlib.Core.Option.{some}
use lib.ListN.{get_elem?}
use Rattle.c11_session.specs.declared.rule.Account.{Account}
use Rattle.c11_session.specs.declared.rule.Stage.{Stage}
use Rattle.c11_session.specs.declared.rule.Stage.TheVariants.{Idle, Waiting, InTurn, Spent}
use Rattle.c11_session.specs.declared.rule.View.{View}

-- the ticket that a view has
abbrev pub ticket_of : Stage → Option ℕ
ticket_of Idle = None
ticket_of (Waiting ticket) = Some ticket
ticket_of (InTurn ticket) = Some ticket
ticket_of Spent = None

abbrev pub HasTicket : View → ℕ → Type 0
HasTicket v ticket = ticket_of v.stage ≡ Some ticket

-- the accounts that a view stands for: its own, and those that it gathered, and none once it is spent
abbrev pub accounts_at : Stage → Account → List Account → List Account
accounts_at Idle mine gathered = mine ∷ gathered
accounts_at (Waiting ticket) mine gathered = mine ∷ gathered
accounts_at (InTurn ticket) mine gathered = mine ∷ gathered
accounts_at Spent mine gathered = []

abbrev pub accounts_of : View → List Account
accounts_of v = accounts_at v.stage v.mine v.gathered

-- those of them that count as idle: the gathered ones do
abbrev pub idle_at : Stage → Account → List Account → List Account
idle_at Idle mine gathered = mine ∷ gathered
idle_at (Waiting ticket) mine gathered = gathered
idle_at (InTurn ticket) mine gathered = gathered
idle_at Spent mine gathered = []

abbrev pub idle_of : View → List Account
idle_of v = idle_at v.stage v.mine v.gathered

-- P holds of each view
abbrev pub Each : (View → Type 0) → List View → Type 0
Each P views = (id : ℕ) (v : View) → get_elem? views id ≡ some v → P v

-- P holds of each account of the views
abbrev pub EachAccount : (Account → Type 0) → List View → Type 0
EachAccount P views = Each (λ v. AllByRecursion P (accounts_of v)) views

-- f of each, added up
abbrev pub total : {V : Type 0} → (V → ℕ) → List V → ℕ
total f [] = 0
total f (v ∷ vs) = f v + total f vs

-- f of each account of a view, added up
abbrev pub over : (Account → ℕ) → View → ℕ
over f v = total f (accounts_of v)

-- how often the number stands in the list
abbrev pub times : ℕ → List ℕ → ℕ
times x [] = 0
times x (y ∷ ys) = (if nat_eq x y then 1 else 0) + times x ys

-- the account has the number
abbrev pub HasNumber : Account → ℕ → Type 0
HasNumber a x = 0 < times x a.numbers

-- 1 below n, else 0
abbrev pub once_below : ℕ → ℕ → ℕ
once_below x n = if nat_lt x n then 1 else 0

-- the numbers below n, the largest first
abbrev pub countdown : ℕ → List ℕ
countdown zero = []
countdown (suc n) = n ∷ countdown n

abbrev pub bit : Bool → ℕ
bit true = 1
bit false = 0

-- the second word: the turns served in its high half; in its low half the front, which is twice the length of the history, and 1
-- more where a verdict is kept
abbrev pub second_word : ℕ → ℕ → Bool → ℕ
second_word served length_now stopped = served * 4294967296 + (2 * length_now + bit stopped)
