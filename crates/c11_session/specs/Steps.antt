-- What the steps on the session's table make of the view of the seat that steps.
use Rattle.std.specs.Prelude.{ℕ, ◌≡◌, ◌+◌, ◌<◌, ◌≤◌, ◌⊎◌, Bool, true, false, List, [], ◌∷◌, ◌++◌, length, Some, None, is_some}
use mathlib.Core.List.{IsPrefix}
use Rattle.atomic_table.specs.Table.{Me}
use Rattle.atomic_table.specs.Seated.{TableId}
use Rattle.c11_events.specs.declared.entry.Entry.{Entry}
use Rattle.c11_events.specs.Steps.{is_init, own_steps, step_count}
use Rattle.c11_turn.specs.declared.terms.Terms.{Terms}
use Rattle.c11_memory.specs.Execution.{Execution}
use Rattle.c11_turn.specs.Hand.{FollowsTerms, IsMemoryOf}
use Rattle.c11_session.specs.declared.rule.Account.{Account}
use Rattle.c11_session.specs.declared.rule.Stage.TheVariants.{Idle, Waiting, InTurn, Spent}
use Rattle.c11_session.specs.declared.rule.View.{View}
use Rattle.c11_session.specs.Views.{HasNumber, second_word}
use Rattle.c11_session.specs.Turns.{Held, HasReason}

-- the table has two words and one slot, and the seat is of it
abbrev pub IsAt : TableId → TableId → Type 0
IsAt table seat = (seat ≡ table) × (table.words ≡ 2) × (table.slots ≡ 1)

-- ---- a ticket

-- an idle view with one number and nothing gathered may draw, where it has a reason
pub record MayDraw (v : View) : Type 0 where
  pub idle : v.stage ≡ Idle
  pub goes_on : v.mine.given_up ≡ false
  pub reason : HasReason v.mine
  pub number : ℕ
  pub one : v.mine.numbers ≡ number ∷ []
  pub alone : v.gathered ≡ []

-- idle becomes waiting with the ticket that was found
abbrev pub with_ticket : View → ℕ → View
with_ticket v ticket = record v { stage = Waiting ticket; mine = record v.mine { drawn = v.mine.drawn + 1 } }

pub record DrawsTicket (before : Me Held View) (found : ℕ) (after : Me Held View) : Type 0 where
  pub waiting : after ≡ (with_ticket before.0 found, before.1)
  pub few : found < 2097152

-- ---- a load

-- what was seen is the history of the loaded length, which begins with what was seen before
pub record Sees (old new : Account) (served : ℕ) (found : ℕ) : Type 0 where
  pub same : new ≡ record old { seen = new.seen; stopped = new.stopped; loads = old.loads + 1 }
  pub front : found ≡ second_word served (length new.seen) new.stopped
  pub fits : length new.seen ≤ 14096
  pub later : IsPrefix old.seen new.seen
  pub stays : old.stopped ≡ true → (new.stopped ≡ true) × (new.seen ≡ old.seen)
  pub follows : (terms : Terms) → old.terms ≡ Some terms → FollowsTerms terms new.seen
  pub made : (x : ℕ) → HasNumber old x → old.made ≡ own_steps new.seen x

pub record LooksAtFront (before : Me Held View) (found : ℕ) (after : Me Held View) : Type 0 where
  pub same : after ≡ (record before.0 { mine = after.0.mine }, before.1)
  pub served : ℕ
  pub sees : Sees before.0.mine after.0.mine served found

-- the ticket is served: waiting becomes turn, and the slot is in the hands of the seat, with the memory of the history
pub record TurnComes (ticket : ℕ) (before after : Me Held View) (served : ℕ) : Type 0 where
  pub memory : Execution
  pub served_now : served ≡ ticket
  pub in_turn : after ≡ (record before.0 { stage = InTurn ticket; mine = after.0.mine }, (0, Some memory) ∷ [])
  pub stands : (terms : Terms) → before.0.mine.terms ≡ Some terms → IsMemoryOf terms after.0.mine.seen memory
  pub kept : is_some memory.verdict ≡ after.0.mine.stopped

-- it is not: the view goes on waiting
pub record GoesOnWaiting (ticket : ℕ) (before after : Me Held View) (served : ℕ) : Type 0 where
  pub not_served : served ≡ ticket → ⊥
  pub same : after ≡ (record before.0 { mine = after.0.mine }, before.1)

pub record PollsForTurn (before : Me Held View) (found : ℕ) (after : Me Held View) : Type 0 where
  pub served : ℕ
  pub sees : Sees before.0.mine after.0.mine served found
  pub comes : (ticket : ℕ) → before.0.stage ≡ Waiting ticket → TurnComes ticket before after served ⊎ GoesOnWaiting ticket before after served

-- ---- the end of a turn

-- with an entry, or with none: the seat waits for another thread, or it takes no further turn
pub data Ending : Type 0 where
  went : Ending
  waits : Ending
  for_good : Ending

abbrev pub waited_after : Ending → Account → List Entry → ℕ
waited_after went a history = a.waited
waited_after waits a history = step_count history + 1
waited_after for_good a history = a.waited

abbrev pub gives_up : Ending → Bool
gives_up went = false
gives_up waits = false
gives_up for_good = true

abbrev pub first_number : List ℕ → ℕ
first_number [] = 0
first_number (n ∷ ns) = n

-- what the seat has seen is the history of the memory in hand, and what it made are the steps of its thread there
abbrev pub account_after : Ending → Account → Execution → Account
account_after how a memory = record a {
  seen = memory.history;
  made = own_steps memory.history (first_number a.numbers);
  stopped = is_some memory.verdict;
  waited = waited_after how a memory.history;
  given_up = gives_up how;
}

-- turn becomes idle, and the slot goes home
abbrev pub after_turn : Ending → View → List (ℕ × Held) → View
after_turn how v [] = v
after_turn how v ((slot, None) ∷ held) = v
after_turn how v ((slot, Some memory) ∷ held) = record v { stage = Idle; mine = account_after how v.mine memory }

abbrev pub EndsTurn : Ending → Me Held View → Me Held View → Type 0
EndsTurn how before after = after ≡ (after_turn how before.0 before.1, [])

-- what the turn leaves: the history that was seen and one entry of the thread; or that history alone, and no verdict where the seat
-- waits
abbrev pub Leaves : Ending → List Entry → ℕ → Execution → Type 0
Leaves went seen number memory = (e : Entry) × (e.thread ≡ number) × (is_init e.op ≡ false) × (memory.history ≡ seen ++ e ∷ [])
Leaves waits seen number memory = (memory.history ≡ seen) × (memory.verdict ≡ None)
Leaves for_good seen number memory = memory.history ≡ seen

-- A seat in turn may end it with the memory in hand where this is one of a history that follows. No entry is added once the session
-- is stopped, and it stays stopped. The second word then counts one turn more, and has the memory's front.
pub record MayEnd (how : Ending) (me : Me Held View) (front : ℕ) : Type 0 where
  pub ticket : ℕ
  pub turn : me.0.stage ≡ InTurn ticket
  pub number : ℕ
  pub one : me.0.mine.numbers ≡ number ∷ []
  pub memory : Execution
  pub in_hand : me.1 ≡ (0, Some memory) ∷ []
  pub terms : Terms
  pub carried : me.0.mine.terms ≡ Some terms
  pub stands : IsMemoryOf terms memory.history memory
  pub follows : FollowsTerms terms memory.history
  pub short : step_count memory.history ≤ terms.bound
  pub fits : length memory.history ≤ 14096
  pub leaves : Leaves how me.0.mine.seen number memory
  pub stays : me.0.mine.stopped ≡ true → (memory.history ≡ me.0.mine.seen) × (is_some memory.verdict ≡ true)
  pub is_front : front ≡ second_word (ticket + 1) (length memory.history) (is_some memory.verdict)

-- ---- seats

abbrev pub but_first : List ℕ → List ℕ
but_first [] = []
but_first (n ∷ ns) = ns

-- a split at the opening: one number goes to the new view
abbrev pub all_but_one : View → View
all_but_one v = record v { mine = record v.mine { numbers = but_first v.mine.numbers } }

abbrev pub one_of : View → View
one_of v = record {
  stage = Idle;
  mine = record {
    numbers = first_number v.mine.numbers ∷ [];
    seen = v.mine.seen;
    made = [];
    stopped = v.mine.stopped;
    loads = 0;
    drawn = 0;
    terms = v.mine.terms;
    waited = 0;
    given_up = false;
  };
  gathered = [];
}

-- a join: the other's account as it is
abbrev pub gathering : View → View → View
gathering v w = record v { gathered = v.gathered ++ w.mine ∷ [] }

abbrev pub spent_view : View
spent_view = record {
  stage = Spent;
  mine = record { numbers = []; seen = []; made = []; stopped = false; loads = 0; drawn = 0; terms = None; waited = 0; given_up = true };
  gathered = [];
}
