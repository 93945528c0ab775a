-- The rule of the session's table.
use Rattle.std.specs.Prelude.{ℕ, ◌≡◌, ◌+◌, ◌<◌, ◌≤◌, ◌⊎◌, Bool, true, false, List, [], ◌∷◌, length, Option, Some, is_some}
use Rattle.std.specs.List.{AllByRecursion}
use mathlib.Core.Option.{some, none}
use mathlib.Core.List.{IsPrefix}
use lib.ListN.{get_elem?}
use Rattle.atomic_table.specs.Table.{State}
use Rattle.c11_events.specs.declared.entry.Entry.{Entry}
use Rattle.c11_events.specs.Replies.{thread_limit}
use Rattle.c11_events.specs.Steps.{init_entries, own_steps, step_count}
use Rattle.c11_turn.specs.declared.terms.Terms.{Terms}
use Rattle.c11_memory.specs.Execution.{Execution}
use Rattle.c11_turn.specs.Hand.{FollowsTerms, IsMemoryOf, program_in}
use Rattle.c11_session.specs.declared.rule.Account.{Account}
use Rattle.c11_session.specs.declared.rule.Stage.TheVariants.{Idle, InTurn}
use Rattle.c11_session.specs.declared.rule.View.{View}
use Rattle.c11_session.specs.Views.{HasTicket, HasNumber, Each, EachAccount, idle_of, total, over, times, once_below, countdown, second_word}

-- what the slot holds: the memory, or nothing while a seat has it in hand and has taken it out
abbrev pub Held : Type 0
Held = Option Execution

-- the first view has all numbers and has seen the Inits
abbrev pub first_account : Terms → Account
first_account terms = record {
  numbers = countdown thread_limit;
  seen = init_entries (program_in terms).setting.atomic;
  made = [];
  stopped = false;
  loads = 0;
  drawn = 0;
  terms = Some terms;
  waited = 0;
  given_up = false;
}

abbrev pub first_view : Terms → View
first_view terms = record { stage = Idle; mine = first_account terms; gathered = [] }

abbrev pub IsInTurn : View → Type 0
IsInTurn v = (ticket : ℕ) × (v.stage ≡ InTurn ticket)

abbrev pub NoneIsInTurn : List View → Type 0
NoneIsInTurn views = Each (λ v. IsInTurn v → ⊥) views

-- The turns served are at most the tickets drawn, and each ticket from the one up to below the other is in exactly one view; no other
-- view has a ticket.
pub record TicketsAreOut (drawn served : ℕ) (views : List View) : Type 0 where
  pub order : served ≤ drawn
  pub somewhere : (t : ℕ) → served ≤ t → t < drawn → (id : ℕ) × (v : View) × (get_elem? views id ≡ some v) × HasTicket v t
  pub once : (t i j : ℕ) (v w : View) → get_elem? views i ≡ some v → get_elem? views j ≡ some w → HasTicket v t → HasTicket w t → i ≡ j
  pub no_other : Each (λ v. (t : ℕ) → HasTicket v t → (served ≤ t) × (t < drawn)) views

-- A view in turn has the ticket served, so there is at most one.
abbrev pub TurnIsServed : ℕ → List View → Type 0
TurnIsServed served views = Each (λ v. (ticket : ℕ) → v.stage ≡ InTurn ticket → ticket ≡ served) views

-- There is one history, of the front's length, and what each view that is not spent has seen is a beginning of it. A view in turn has
-- seen it whole, and is stopped where the front's lowest bit is set.
pub record OneHistory (history : List Entry) (stopped : Bool) (views : List View) : Type 0 where
  pub seen : EachAccount (λ a. IsPrefix a.seen history) views
  pub turn : Each (λ v. IsInTurn v → (v.mine.seen ≡ history) × (v.mine.stopped ≡ stopped)) views

-- The slot is away from home, in the hands of the seat whose view is in turn, and at home where there is none. The home value is a
-- memory whose history is the one history.
pub record SlotIsHeld (history : List Entry) (s : State Held View) : Type 0 where
  pub out : Each (λ v. IsInTurn v → s.homes ≡ none ∷ []) s.views
  pub home : NoneIsInTurn s.views → (memory : Execution) × (s.homes ≡ some (Some memory) ∷ []) × (memory.history ≡ history)

-- the slot is at home with this memory
abbrev pub IsAtHome : Execution → State Held View → Type 0
IsAtHome memory s = s.homes ≡ some (Some memory) ∷ []

-- The history follows, for the program, the seed and the bound that every view that is not spent carries. A memory at home is one of
-- theirs with this history: its tables, the words that it drew, its marks, and a verdict that it keeps. Where the slot is at home,
-- the front's lowest bit is set exactly where the memory keeps a verdict. A view is stopped only where that bit is set.
pub record OneExecution (terms : Terms) (history : List Entry) (stopped : Bool) (s : State Held View) : Type 0 where
  pub follows : FollowsTerms terms history
  pub carried : EachAccount (λ a. a.terms ≡ Some terms) s.views
  pub memory : (memory : Execution) → IsAtHome memory s → IsMemoryOf terms history memory
  pub front : (memory : Execution) → IsAtHome memory s → is_some memory.verdict ≡ stopped
  pub stops_there : EachAccount (λ a. a.stopped ≡ true → stopped ≡ true) s.views

-- Each number from 0 to 15 is in exactly one view, and each view that is not spent has at least one. What a view made is, of each
-- number that it has, all steps of this thread. Only a view with exactly one number and nothing gathered draws a ticket.
pub record NumbersAreDealt (history : List Entry) (views : List View) : Type 0 where
  pub once : (x : ℕ) → total (over (λ a. times x a.numbers)) views ≡ once_below x thread_limit
  pub some_number : EachAccount (λ a. 0 < length a.numbers) views
  pub made : EachAccount (λ a. (x : ℕ) → HasNumber a x → a.made ≡ own_steps history x) views
  pub draws : Each (λ v. (t : ℕ) → HasTicket v t → (number : ℕ) × (v.mine.numbers ≡ number ∷ []) × (v.gathered ≡ [])) views

-- it has seen something after it last waited, or that the session is stopped
abbrev pub HasReason : Account → Type 0
HasReason a = (a.waited ≤ step_count a.seen) ⊎ (a.stopped ≡ true)

-- The tickets that the views that are not spent drew are all that were drawn. A view has drawn at most one for each entry that it
-- made, one for each length at which it may have waited, and one more; an idle one that has not given up at most as many without the
-- last. While it waits for its turn or is in turn it has not given up, and it has seen as many steps as `waited`, or is stopped.
pub record TicketsAreCounted (terms : Terms) (drawn : ℕ) (views : List View) : Type 0 where
  pub sum : total (over (λ a. a.drawn)) views ≡ drawn
  pub waited : EachAccount (λ a. a.waited ≤ terms.bound) views
  pub few : EachAccount (λ a. a.drawn ≤ length a.made + a.waited + 1) views
  pub idle : Each (λ v. AllByRecursion (λ a. a.given_up ≡ false → a.drawn ≤ length a.made + a.waited) (idle_of v)) views
  pub going : Each (λ v. (t : ℕ) → HasTicket v t → (v.mine.given_up ≡ false) × HasReason v.mine) views

-- What the code keeps beyond these.
pub record KeepsMore (terms : Terms) (history : List Entry) (stopped : Bool) (views : List View) : Type 0 where
  -- what a stopped view has seen is all: so it is told the same verdict at each later call
  pub whole : EachAccount (λ a. a.stopped ≡ true → a.seen ≡ history) views
  -- the views have 16 numbers: it follows from their being dealt, and is kept since it bounds the number of views and of tickets
  pub all : total (over (λ a. length a.numbers)) views ≡ thread_limit
  -- numbers of a clause have no range: so the bounds that keep both words small stand here
  pub small : terms.bound ≤ 10000
  pub short : step_count history ≤ terms.bound
  pub fits : length history ≤ 14096

-- The rule: by turns the seats make one execution.
pub record TakeTurns (terms : Terms) (s : State Held View) : Type 0 where
  pub drawn : ℕ
  pub served : ℕ
  pub history : List Entry
  pub stopped : Bool
  pub words : s.words ≡ drawn ∷ second_word served (length history) stopped ∷ []
  pub tickets : TicketsAreOut drawn served s.views
  pub turn : TurnIsServed served s.views
  pub seen : OneHistory history stopped s.views
  pub slot : SlotIsHeld history s
  pub execution : OneExecution terms history stopped s
  pub numbers : NumbersAreDealt history s.views
  pub counted : TicketsAreCounted terms drawn s.views
  pub more : KeepsMore terms history stopped s.views
