-- The rule view by view, as the steps are shown to keep it.
use Rattle.std.proofs.Common.{◌≡◌, ◌≢◌, ℕ, ◌≤◌, Bool, List, [], ◌∷◌, ◌++◌, length, sym, ap, ◌∙◌, subst, arith}
use Rattle.std.specs.Prelude.{is_some}
use Rattle.std.specs.List.{AllByRecursion}
use Rattle.std.proofs.Math.ListN.{set}
use mathlib.Core.Option.{some, none}
use lib.ListN.{get_elem?}
use Rattle.atomic_table.specs.Table.{State}
use Rattle.atomic_table.proofs.Lists.{at_longer, set_else}
use Rattle.c11_events.specs.declared.entry.Entry.{Entry}
use Rattle.c11_events.specs.Replies.{thread_limit}
use Rattle.c11_events.specs.Steps.{step_count}
use Rattle.c11_turn.specs.declared.terms.Terms.{Terms}
use Rattle.c11_memory.specs.Execution.{Execution}
use Rattle.c11_turn.specs.Hand.{FollowsTerms, IsMemoryOf}
use Rattle.c11_session.specs.declared.rule.Account.{Account}
use Rattle.c11_session.specs.declared.rule.View.{View}
use Rattle.c11_session.specs.Views.{Each, accounts_of, total, over, times, once_below, second_word}
use Rattle.c11_session.specs.Turns.{Held, IsInTurn, TicketsAreOut, TurnIsServed, SlotIsHeld, IsAtHome, TakeTurns}
use Rattle.c11_session.proofs.Lists.{all_snoc, every_both, every_map, set_there, total_set}
use Rattle.c11_session.proofs.Tickets.{not_here}
use Rattle.c11_session.proofs.Accounts.{AccountIs, IsActive, ViewIs, over_active}

-- what is kept of the memory while it is at home
pub record MemoryIs (terms : Terms) (history : List Entry) (stopped : Bool) (s : State Held View) : Type 0 where
  pub stands : (memory : Execution) → IsAtHome memory s → IsMemoryOf terms history memory
  pub front : (memory : Execution) → IsAtHome memory s → is_some memory.verdict ≡ stopped

-- the rule, with what it says of views gathered view by view
pub record TableIs (terms : Terms) (s : State Held View) : Type 0 where
  pub drawn : ℕ
  pub served : ℕ
  pub history : List Entry
  pub stopped : Bool
  pub words : s.words ≡ drawn ∷ second_word served (length history) stopped ∷ []
  pub tickets : TicketsAreOut drawn served s.views
  pub turn : TurnIsServed served s.views
  pub each : Each (ViewIs terms history stopped) s.views
  pub once : (x : ℕ) → total (over (λ (a : Account). times x a.numbers)) s.views ≡ once_below x thread_limit
  pub all : total (over (λ (a : Account). length a.numbers)) s.views ≡ thread_limit
  pub sum : total (over (λ (a : Account). a.drawn)) s.views ≡ drawn
  pub follows : FollowsTerms terms history
  pub small : terms.bound ≤ 10000
  pub short : step_count history ≤ terms.bound
  pub fits : length history ≤ 14096
  pub slot : SlotIsHeld history s
  pub memory : MemoryIs terms history stopped s

-- the sentences of the rule, from what is kept of each view
pub turns_of : (terms : Terms) (s : State Held View) → TableIs terms s → TakeTurns terms s
turns_of terms s h = record {
  drawn = h.drawn;
  served = h.served;
  history = h.history;
  stopped = h.stopped;
  words = h.words;
  tickets = h.tickets;
  turn = h.turn;
  seen = record {
    seen = λ id v at. every_map (accounts_of v) (λ a x. x.seen) (h.each id v at).accounts;
    turn = λ id v at. (h.each id v at).turn;
  };
  slot = h.slot;
  execution = record {
    follows = h.follows;
    carried = λ id v at. every_map (accounts_of v) (λ a x. x.carried) (h.each id v at).accounts;
    memory = h.memory.stands;
    front = h.memory.front;
    stops_there = λ id v at. every_map (accounts_of v) (λ a x is. (x.stops is).0) (h.each id v at).accounts;
  };
  numbers = record {
    once = h.once;
    some_number = λ id v at. every_map (accounts_of v) (λ a x. x.some_number) (h.each id v at).accounts;
    made = λ id v at. every_map (accounts_of v) (λ a x. x.made) (h.each id v at).accounts;
    draws = λ id v at t has. let x = (h.each id v at).busy t has in (x.number, x.one, x.alone);
  };
  counted = record {
    sum = h.sum;
    waited = λ id v at. every_map (accounts_of v) (λ a x. x.waited) (h.each id v at).accounts;
    few = λ id v at. every_map (accounts_of v) (λ a x. x.few) (h.each id v at).accounts;
    idle = λ id v at. (h.each id v at).idle;
    going = λ id v at t has. let x = (h.each id v at).busy t has in (x.goes_on, x.reason);
  };
  more = record {
    whole = λ id v at. every_map (accounts_of v) (λ a x is. (x.stops is).1) (h.each id v at).accounts;
    all = h.all;
    small = h.small;
    short = h.short;
    fits = h.fits;
  };
}

-- and back
pub table_of : (terms : Terms) (s : State Held View) → TakeTurns terms s → TableIs terms s
table_of terms s h = record {
  drawn = h.drawn;
  served = h.served;
  history = h.history;
  stopped = h.stopped;
  words = h.words;
  tickets = h.tickets;
  turn = h.turn;
  each = λ id v at. record {
    accounts =
        let two = every_both _ _ (accounts_of v) (h.seen.seen id v at) (h.execution.stops_there id v at) in
        let three = every_both _ _ (accounts_of v) two (h.more.whole id v at) in
        let four = every_both _ _ (accounts_of v) three (h.execution.carried id v at) in
        let five = every_both _ _ (accounts_of v) four (h.numbers.some_number id v at) in
        let six = every_both _ _ (accounts_of v) five (h.numbers.made id v at) in
        let seven = every_both _ _ (accounts_of v) six (h.counted.waited id v at) in
        every_map (accounts_of v) (λ a x. record {
          seen = x.0.0.0.0.0.0.0;
          stops = λ is. (x.0.0.0.0.0.0.1 is, x.0.0.0.0.0.1 is);
          carried = x.0.0.0.0.1;
          some_number = x.0.0.0.1;
          made = x.0.0.1;
          waited = x.0.1;
          few = x.1;
        }) (every_both _ _ (accounts_of v) seven (h.counted.few id v at));
    idle = h.counted.idle id v at;
    busy = λ t has. let x = h.numbers.draws id v at t has in let y = h.counted.going id v at t has in record { goes_on = y.0; reason = y.1; number = x.0; one = x.1; alone = x.2 };
    turn = h.seen.turn id v at;
  };
  once = h.numbers.once;
  all = h.more.all;
  sum = h.counted.sum;
  follows = h.execution.follows;
  small = h.more.small;
  short = h.more.short;
  fits = h.more.fits;
  slot = h.slot;
  memory = record { stands = h.execution.memory; front = h.execution.front };
}

-- ---- the slot stays where it is

-- while a view changes that is not in turn
pub slot_set : (history : List Entry) (s : State Held View) (words : List ℕ) (id : ℕ) (v w : View) → SlotIsHeld history s → get_elem? s.views id ≡ some v → (IsInTurn v → ⊥) → (IsInTurn w → ⊥)
    → SlotIsHeld history record { words = words; homes = s.homes; views = set s.views id w }
slot_set history s words id v w h at not not_new = record {
  out = λ j u at_u is.
      let elsewhere : j ≢ id = not_here (set s.views id w) id w (set_there s.views id v w at) not_new j u at_u is in
      h.out j u (sym (set_else s.views id j w elsewhere) ∙ at_u) is;
  home = λ none. h.home (λ j u at_u is. none j u (set_else s.views id j w (not_here s.views id v at not j u at_u is) ∙ at_u) is);
}

-- while one view more comes
pub slot_more : (history : List Entry) (s : State Held View) (w : View) → SlotIsHeld history s → (IsInTurn w → ⊥) → SlotIsHeld history record { words = s.words; homes = s.homes; views = s.views ++ w ∷ [] }
slot_more history s w h not = record {
  out = all_snoc (λ (u : View). IsInTurn u → s.homes ≡ none ∷ []) s.views w (λ is. absurd (not is)) h.out;
  home = λ none. h.home (λ j u at_u is. none j u (at_longer s.views (w ∷ []) j u at_u) is);
}

-- ---- sums stay, where a view counts as before

pub same_total : (f : Account → ℕ) (views : List View) (id : ℕ) (v w : View) → get_elem? views id ≡ some v → IsActive v → IsActive w → f w.mine ≡ f v.mine → w.gathered ≡ v.gathered
    → total (over f) (set views id w) ≡ total (over f) views
same_total f views id v w at active active_new same rest =
    let gathered : total f w.gathered ≡ total f v.gathered = ap (λ (accounts : List Account). total f accounts) rest in
    omega (arith, total_set (over f) views id v w at, over_active f v active, over_active f w active_new, same, gathered)

-- ---- a view's own account

pub the_accounts : (terms : Terms) (history : List Entry) (stopped : Bool) (v : View) → ViewIs terms history stopped v → IsActive v → AllByRecursion (AccountIs terms history stopped) (v.mine ∷ v.gathered)
the_accounts terms history stopped v h active = subst (λ accounts. AllByRecursion (AccountIs terms history stopped) accounts) active h.accounts
