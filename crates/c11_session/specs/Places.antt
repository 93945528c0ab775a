-- What a seat is made of, and what is kept of it.
use Rattle.std.specs.Prelude.{ℕ, ◌≡◌, ◌+◌, ◌<◌, ◌≤◌, ◌↔◌, Bool, true, false, [], ◌∷◌, length, Option, Some, None, is_some, IsTrue, if◌then◌else◌, nat_eq}
use mathlib.Core.List.{IsPrefix}
use Rattle.atomic_table.specs.Table.{Me}
use Rattle.c11_events.specs.declared.op.Ask.{Ask}
use Rattle.c11_events.specs.declared.reply.Holder.{Holder}
use Rattle.c11_events.specs.EventOf.{events_of}
use Rattle.c11_events.specs.Steps.{own_steps, step_count}
use Rattle.c11_events.specs.Threads.{blocked_by}
use Rattle.c11_events.specs.Verdicts.{VerdictOf}
use Rattle.c11_memory.specs.Execution.{Execution}
use Rattle.c11_turn.specs.declared.terms.Terms.{Terms}
use Rattle.c11_turn.specs.declared.turns.Turned.{Turned}
use Rattle.c11_turn.specs.Asking.{IsOver}
use Rattle.c11_turn.specs.Hand.{FollowsTerms, IsMemoryOf, IsTurn, next_in}
use Rattle.c11_session.specs.declared.answer.Turn.{Turn}
use Rattle.c11_session.specs.declared.place.Place.{Place}
use Rattle.c11_session.specs.declared.place.Rest.{Rest}
use Rattle.c11_session.specs.declared.place.Rest.TheVariants as rest
use Rattle.c11_session.specs.declared.rule.Account.{Account}
use Rattle.c11_session.specs.declared.rule.Stage.TheVariants.{Idle, InTurn}
use Rattle.c11_session.specs.declared.rule.View.{View}
use Rattle.c11_session.specs.Seats.{Keeps, Sitting, TakesPart, Tells, asks_after, says_short}
use Rattle.c11_session.specs.Turns.{Held, HasReason}
use Rattle.c11_session.specs.Views.{HasNumber, second_word}

abbrev pub is_short : Rest → Bool
is_short rest.NoMemory = true
is_short _ = false

abbrev pub sitting_of : Place → Sitting
sitting_of p = record {
  table = p.chair.table_id;
  terms = p.terms;
  account = p.chair.me.0.mine;
  machine = p.thread;
  has_ask = is_some p.ask;
  short = is_short p.rest;
}

-- the seat waits at the end of what it has seen: its thread is blocked there by this holder
pub record IsBlocked (number : ℕ) (asked : Option Ask) (a : Account) (holder : Holder) (count : ℕ) : Type 0 where
  pub ask : Ask
  pub is : asked ≡ Some ask
  pub blocked : blocked_by (events_of a.seen) number ask.op ≡ Some holder
  pub long : length a.seen ≡ count
  pub going : a.stopped ≡ false
  pub goes_on : a.given_up ≡ false
  pub waited : a.waited ≡ step_count a.seen + 1

-- what it was told still holds
abbrev pub HoldsStill : Terms → ℕ → Option Ask → Account → Rest → Type 0
HoldsStill terms number asked a rest.Ready = (a.given_up ≡ false) × HasReason a
HoldsStill terms number asked a (rest.Waits holder count) = IsBlocked number asked a holder count
HoldsStill terms number asked a (rest.Stopped v) = (a.given_up ≡ true) × (a.stopped ≡ true) × VerdictOf (next_in terms a.seen) terms.bound a.seen (Some v)
HoldsStill terms number asked a rest.NoMemory = a.given_up ≡ true

-- what is kept of a seat between its calls
pub record IsSeated (p : Place) : Type 0 where
  pub empty : p.chair.me.1 ≡ []
  pub idle : p.chair.me.0.stage ≡ Idle
  pub alone : p.chair.me.0.gathered ≡ []
  pub part : TakesPart (sitting_of p)
  pub asked : (ask : Ask) → p.ask ≡ Some ask → (asks_after p.terms p.chair.me.0.mine.made ≡ Some ask) × (p.thread.config.state.replies ≡ [])
  pub over : IsTrue p.over ↔ IsOver p.chair.me.0.mine.made
  pub holds : HoldsStill p.terms p.thread.number p.ask p.chair.me.0.mine p.rest

-- after a load: a seat that waits goes on where nothing was added, and the session is not stopped
abbrev pub still : Rest → ℕ → Bool → Rest
still (rest.Waits holder count) n stopped = if stopped then rest.Ready else (if nat_eq count n then rest.Waits holder count else rest.Ready)
still other n stopped = other

-- ---- a turn

-- one load or more, or none
pub record Looked (old new : Account) : Type 0 where
  pub same : new ≡ record old { seen = new.seen; stopped = new.stopped; loads = new.loads }
  pub more : old.loads ≤ new.loads
  pub later : IsPrefix old.seen new.seen
  pub stays : old.stopped ≡ true → (new.stopped ≡ true) × (new.seen ≡ old.seen)

-- the seat still waits for its turn
pub record StillWaits (old new : Me Held View) : Type 0 where
  pub looked : Looked old.0.mine new.0.mine
  pub same : new ≡ (record old.0 { mine = new.0.mine }, old.1)

-- its turn has come, and this is what it holds: the memory of what it has seen, which follows
pub record IsItsTurn (ticket : ℕ) (old new : Me Held View) (memory : Execution) : Type 0 where
  pub looked : Looked old.0.mine new.0.mine
  pub loads : old.0.mine.loads < new.0.mine.loads
  pub in_turn : new.0 ≡ record old.0 { stage = InTurn ticket; mine = new.0.mine }
  pub stands : (terms : Terms) → old.0.mine.terms ≡ Some terms → IsMemoryOf terms new.0.mine.seen memory
  pub follows : (terms : Terms) → old.0.mine.terms ≡ Some terms → FollowsTerms terms new.0.mine.seen
  pub kept : is_some memory.verdict ≡ new.0.mine.stopped
  pub made : (x : ℕ) → HasNumber old.0.mine x → old.0.mine.made ≡ own_steps new.0.mine.seen x

-- the same with the memory in the slot
pub record Arrives (ticket : ℕ) (old new : Me Held View) : Type 0 where
  pub memory : Execution
  pub turn : IsItsTurn ticket old new memory
  pub in_hand : new.1 ≡ (0, Some memory) ∷ []

-- a ticket was drawn, its turn has come, and the memory is taken out of the slot
pub record Begins (old new : Me Held View) (ticket : ℕ) (memory : Execution) : Type 0 where
  pub few : ticket < 2097152
  pub turn : IsItsTurn ticket (record old.0 { mine = record old.0.mine { drawn = old.0.mine.drawn + 1 } }, old.1) new memory
  pub in_hand : new.1 ≡ (0, None) ∷ []

-- The seat is in turn, and the memory in the slot is what a turn of its thread made of the one that it found, of what it has seen.
-- This is the second word that is due.
pub record HasPlayed (p : Place) (turned : Turned) (word : ℕ) : Type 0 where
  pub ticket : ℕ
  pub in_turn : p.chair.me.0.stage ≡ InTurn ticket
  pub alone : p.chair.me.0.gathered ≡ []
  pub part : TakesPart (sitting_of p)
  pub goes_on : p.chair.me.0.mine.given_up ≡ false
  pub reason : HasReason p.chair.me.0.mine
  pub not_over : IsOver p.chair.me.0.mine.made → ⊥
  pub is_ready : p.rest ≡ rest.Ready
  pub going : p.over ≡ false
  pub ask : Ask
  pub in_mind : p.ask ≡ Some ask
  pub asked : asks_after p.terms p.chair.me.0.mine.made ≡ Some ask
  pub taken : p.thread.config.state.replies ≡ []
  pub found : Execution
  pub entries : found.history ≡ p.chair.me.0.mine.seen
  pub kept : is_some found.verdict ≡ p.chair.me.0.mine.stopped
  pub memory : Execution
  pub in_hand : p.chair.me.1 ≡ (0, Some memory) ∷ []
  pub turn : IsTurn p.terms found memory p.thread.number ask turned
  pub short : step_count memory.history ≤ p.terms.bound
  pub fits : length memory.history ≤ 14096
  pub is_word : word ≡ second_word (ticket + 1) (length memory.history) (is_some memory.verdict)

-- A seat that could draw has come to the end of its turn: it drew one ticket and made one load or more, and nothing of it but its view
-- and what it has in hand is another.
pub record CameToTurn (old new : Place) : Type 0 where
  pub same : new ≡ record old { chair = new.chair }
  pub table : new.chair.table_id ≡ old.chair.table_id
  pub looked : Looked (record old.chair.me.0.mine { drawn = old.chair.me.0.mine.drawn + 1 }) new.chair.me.0.mine
  pub loads : old.chair.me.0.mine.loads < new.chair.me.0.mine.loads

-- no ticket was drawn and no load made
pub record SameCounts (old new : Account) : Type 0 where
  pub loads : new.loads ≡ old.loads
  pub drawn : new.drawn ≡ old.drawn

-- the seat ended its turn, and this is its answer
pub record Finishes (old new : Place) (answer : Turn) : Type 0 where
  pub seated : IsSeated new
  pub keeps : Keeps (sitting_of old) (sitting_of new)
  pub tells : Tells (sitting_of old) (sitting_of new) answer
  pub counts : SameCounts old.chair.me.0.mine new.chair.me.0.mine
  pub short : is_short new.rest ≡ says_short answer
