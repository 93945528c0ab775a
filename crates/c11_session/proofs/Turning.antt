-- Tickets, loads and ends of turns keep the rule.
use Rattle.std.proofs.Common.{◌≡◌, ◌≢◌, ℕ, ◌+◌, ◌%◌, ◌^◌, ◌<◌, ◌≤◌, inl, inr, Bool, true, false, List, [], ◌∷◌, ◌++◌, length, Some, None, refl, sym, ap, ◌∙◌, subst, arith, ⊎_elim, slice_index, length-append}
use Rattle.std.specs.Prelude.{is_some, Option as Kept}
use Rattle.std.proofs.lemmas.Bool.Decides.{nat_tests}
use Rattle.std.proofs.lemmas.Option.{same_Some}
use Rattle.std.specs.List.{AllByRecursion}
use Rattle.std.proofs.Math.ListN.{set}
use native.Mathlib.Decide.{ℕ_discrete}
use mathlib.Core.Logic.{dite}
use mathlib.Core.Option.{Option, some, none}
use mathlib.Core.List.{IsPrefix}
use lib.ListN.{get_elem?}
use Rattle.atomic_table.specs.Table.{State, keeps, takes, gives, Allows}
use Rattle.c11_events.specs.declared.entry.Entry.{Entry}
use Rattle.c11_events.specs.Replies.{thread_limit}
use Rattle.c11_events.specs.Steps.{own_steps, step_count}
use Rattle.c11_events.specs.declared.verdict.Verdict.{Verdict}
use Rattle.c11_events.specs.Verdicts.{StepVerdict, by_bound, by_last, undecided}
use Rattle.c11_turn.specs.declared.terms.Terms.{Terms}
use Rattle.c11_memory.specs.Execution.{Execution}
use Rattle.c11_turn.specs.Hand.{FollowsTerms, IsMemoryOf}
use Rattle.c11_turn.proofs.Asking.{others_same, own_gained}
use Rattle.c11_session.specs.declared.rule.Account.{Account}
use Rattle.c11_session.specs.declared.rule.Stage.{Stage}
use Rattle.c11_session.specs.declared.rule.Stage.TheVariants.{Idle, Waiting, InTurn}
use Rattle.c11_session.specs.declared.rule.View.{View}
use Rattle.c11_session.specs.Views.{HasTicket, idle_at, ticket_of, total, over, times, once_below, second_word}
use Rattle.c11_session.specs.Turns.{Held, HasReason, IsInTurn, NoneIsInTurn, TicketsAreOut, TakeTurns}
use Rattle.c11_session.specs.Steps.{MayDraw, with_ticket, DrawsTicket, Sees, LooksAtFront, PollsForTurn, Ending, went, waits, for_good, waited_after, gives_up, first_number, account_after, EndsTurn, Leaves, MayEnd}
use Rattle.c11_session.proofs.Lists.{total_set, total_two, all_set, same_place, set_there, prefix_self}
use Rattle.c11_session.proofs.Tickets.{HasNone, draw_ticket, end_turn, idle_not_turn, keep_with, keep_without, only_turn, same_ticket, turn_ticket, waiting_not_turn}
use Rattle.c11_session.proofs.Accounts.{AccountIs, Grows, IsActive, IsBusy, IsSpare, ViewIs, few_drawn, idle_active, over_active, steps_prefix, turn_active, view_grows, waiting_active}
use Rattle.c11_session.proofs.Keeping.{TableIs, same_total, slot_set, table_of, the_accounts, turns_of}

-- A view that is not in turn changes, and keeps its numbers and what it gathered.
changes : (terms : Terms) (s : State Held View) (words : List ℕ) (id : ℕ) (v w : View) (h : TableIs terms s) (drawn : ℕ) → get_elem? s.views id ≡ some v
    → words ≡ drawn ∷ second_word h.served (length h.history) h.stopped ∷ [] → TicketsAreOut drawn h.served (set s.views id w) → ViewIs terms h.history h.stopped w
    → (IsInTurn v → ⊥) → (IsInTurn w → ⊥) → IsActive v → IsActive w → w.mine.numbers ≡ v.mine.numbers → w.gathered ≡ v.gathered → w.mine.drawn + h.drawn ≡ v.mine.drawn + drawn
    → TakeTurns terms record { words = words; homes = s.homes; views = set s.views id w }
changes terms s words id v w h drawn at is_words tickets view not not_new active active_new numbers gathered more = turns_of terms _ record {
  drawn = drawn;
  served = h.served;
  history = h.history;
  stopped = h.stopped;
  words = is_words;
  tickets = tickets;
  turn = all_set (λ j (u : View). (t : ℕ) → u.stage ≡ InTurn t → t ≡ h.served) s.views id w (λ t is. absurd (not_new (t, is))) (λ j u other e. h.turn j u e);
  each = all_set (λ j (u : View). ViewIs terms h.history h.stopped u) s.views id w view (λ j u other e. h.each j u e);
  once = λ x. same_total (λ a. times x a.numbers) s.views id v w at active active_new (ap (times x) numbers) gathered ∙ h.once x;
  all = same_total (λ a. length a.numbers) s.views id v w at active active_new (ap length numbers) gathered ∙ h.all;
  sum =
      let rest : total (λ (a : Account). a.drawn) w.gathered ≡ total (λ (a : Account). a.drawn) v.gathered = ap (λ (accounts : List Account). total (λ (a : Account). a.drawn) accounts) gathered in
      omega (arith, total_set (over (λ a. a.drawn)) s.views id v w at, over_active (λ a. a.drawn) v active, over_active (λ a. a.drawn) w active_new, h.sum, more, rest);
  follows = h.follows;
  small = h.small;
  short = h.short;
  fits = h.fits;
  slot = slot_set h.history s words id v w h.slot at not not_new;
  memory = record { stands = h.memory.stands; front = h.memory.front };
}

-- ---- a ticket

pub draws : (terms : Terms) (slots id : ℕ) (v : View) (held : List (ℕ × Held)) → MayDraw v
    → Allows (TakeTurns terms) slots id (v, held) 0 (λ n. (n + 1) % 2 ^ 64) (λ found after. DrawsTicket (v, held) found after)
draws terms slots id v held may s rule homes at small =
    let h = table_of terms s rule in
    let found : slice_index s.words 0 ≡ h.drawn = ap (λ (ws : List ℕ). slice_index ws 0) h.words in
    let few = few_drawn terms h.history h.stopped s.views h.small h.fits h.each h.once h.all in
    let next : (slice_index s.words 0 + 1) % 2 ^ 64 ≡ h.drawn + 1 = omega (arith, few, h.sum, found) in
    let w : View = with_ticket v (slice_index s.words 0) in
    let active = idle_active v may.idle in
    let view = h.each id v at in
    let accounts = the_accounts terms h.history h.stopped v view active in
    let own = accounts.0 in
    let spares : AllByRecursion IsSpare (v.mine ∷ v.gathered) = subst (λ (stage : Stage). AllByRecursion IsSpare (idle_at stage v.mine v.gathered)) may.idle view.idle in
    let spare = spares.0 may.goes_on in
    let new_view : ViewIs terms h.history h.stopped w = record {
      accounts = (record { seen = own.seen; stops = own.stops; carried = own.carried; some_number = own.some_number; made = own.made; waited = own.waited; few = omega (arith, spare) }, accounts.1);
      idle = spares.1;
      busy = λ t has. record { goes_on = may.goes_on; reason = may.reason; number = may.number; one = may.one; alone = may.alone };
      turn = λ is. absurd (waiting_not_turn w (slice_index s.words 0) refl is);
    } in (
      w,
      keeps,
      tt,
      changes terms s (set s.words 0 ((slice_index s.words 0 + 1) % 2 ^ 64)) id v w h (h.drawn + 1) at
          (ap (λ (ws : List ℕ). set ws 0 ((slice_index s.words 0 + 1) % 2 ^ 64)) h.words ∙ (λ i. next i ∷ second_word h.served (length h.history) h.stopped ∷ []))
          (draw_ticket h.drawn h.served s.views id v w h.tickets at (ap ticket_of may.idle) (ap (λ (n : ℕ). Some n) found)) new_view
          (idle_not_turn v may.idle) (waiting_not_turn w (slice_index s.words 0) refl) active refl refl refl (omega arith),
      record { waiting = refl; few = omega (arith, few, h.sum, found) },
    )

-- ---- a load

abbrev after_load : Account → List Entry → Bool → Account
after_load a history stopped = record a { seen = history; stopped = stopped; loads = a.loads + 1 }

account_sees : (terms : Terms) (history : List Entry) (stopped : Bool) (a : Account) → AccountIs terms history stopped a → AccountIs terms history stopped (after_load a history stopped)
account_sees terms history stopped a h = record { seen = prefix_self history; stops = λ e. (e, refl); carried = h.carried; some_number = h.some_number; made = h.made; waited = h.waited; few = h.few }

sees : (terms : Terms) (served : ℕ) (history : List Entry) (stopped : Bool) (a : Account) (found : ℕ) → AccountIs terms history stopped a → FollowsTerms terms history → length history ≤ 14096
    → found ≡ second_word served (length history) stopped → Sees a (after_load a history stopped) served found
sees terms served history stopped a found h follows fits is = record {
  same = refl;
  front = is;
  fits = fits;
  later = h.seen;
  stays = λ e. let x = h.stops e in (x.0, sym x.1);
  follows = λ other carried. subst (λ (t : Terms). FollowsTerms t history) (same_Some terms other (sym h.carried ∙ carried)) follows;
  made = h.made;
}

second : (words : List ℕ) (n m : ℕ) → words ≡ n ∷ m ∷ [] → slice_index words 1 ≡ m
second words n m is = ap (λ (ws : List ℕ). slice_index ws 1) is

same_words : (words : List ℕ) (n m : ℕ) → words ≡ n ∷ m ∷ [] → set words 1 (slice_index words 1) ≡ n ∷ m ∷ []
same_words words n m is = ap (λ (ws : List ℕ). set ws 1 (slice_index ws 1)) is

pub looks : (terms : Terms) (slots id : ℕ) (v : View) (held : List (ℕ × Held)) → v.stage ≡ Idle
    → Allows (TakeTurns terms) slots id (v, held) 1 (λ n. n) (λ found after. LooksAtFront (v, held) found after)
looks terms slots id v held idle s rule homes at small =
    let h = table_of terms s rule in
    let w : View = record v { mine = after_load v.mine h.history h.stopped } in
    let active = idle_active v idle in
    let active_new = idle_active w idle in
    let view = h.each id v at in
    let accounts = the_accounts terms h.history h.stopped v view active in
    let spares : AllByRecursion IsSpare (v.mine ∷ v.gathered) = subst (λ (stage : Stage). AllByRecursion IsSpare (idle_at stage v.mine v.gathered)) idle view.idle in
    let none : HasNone v = ap ticket_of idle in
    let new_view : ViewIs terms h.history h.stopped w = record {
      accounts = subst (λ xs. AllByRecursion (AccountIs terms h.history h.stopped) xs) (sym active_new) (account_sees terms h.history h.stopped v.mine accounts.0, accounts.1);
      idle = subst (λ (stage : Stage). AllByRecursion IsSpare (idle_at stage w.mine w.gathered)) (sym idle) (spares.0, spares.1);
      busy = λ t has. absurd (let clash : None ≡ Some t = sym none ∙ has in cc);
      turn = λ is. absurd (idle_not_turn v idle is);
    } in (
      w,
      keeps,
      tt,
      changes terms s (set s.words 1 (slice_index s.words 1)) id v w h h.drawn at (same_words s.words _ _ h.words)
          (keep_without h.drawn h.served s.views id v w h.tickets at none none) new_view (idle_not_turn v idle) (idle_not_turn w idle) active active_new refl refl refl,
      record { same = refl; served = h.served; sees = sees terms h.served h.history h.stopped v.mine _ accounts.0 h.follows h.fits (second s.words _ _ h.words) },
    )

-- a view that waits has as good a reason once it has seen more
still_reason : (terms : Terms) (history : List Entry) (stopped : Bool) (a : Account) → AccountIs terms history stopped a → HasReason a → HasReason (after_load a history stopped)
still_reason terms history stopped a h reason = ⊎_elim (λ (x : a.waited ≤ step_count a.seen). inl (let le = steps_prefix a.seen history h.seen in omega (arith, x, le)))
    (λ (x : a.stopped ≡ true). inr ((h.stops x).0)) reason

out_of : (homes : List (Option Held)) (memory other : Execution) → homes ≡ some (Some memory) ∷ [] → set homes 0 none ≡ some (Some other) ∷ [] → ⊥
out_of homes memory other is after = let clash : none ∷ [] ≡ some (Some other) ∷ [] = sym (ap (λ (hs : List (Option Held)). set hs 0 none) is) ∙ after in cc

pub polls : (terms : Terms) (slots id : ℕ) (v : View) (ticket : ℕ) → v.stage ≡ Waiting ticket
    → Allows (TakeTurns terms) slots id (v, []) 1 (λ n. n) (λ found after. PollsForTurn (v, []) found after)
unfolding sees
polls terms slots id v ticket waiting s rule homes at small =
    let h = table_of terms s rule in
    let active = waiting_active v ticket waiting in
    let has : HasTicket v ticket = ap ticket_of waiting in
    let view = h.each id v at in
    let accounts = the_accounts terms h.history h.stopped v view active in
    let busy = view.busy ticket has in
    let others : AllByRecursion IsSpare v.gathered = subst (λ (stage : Stage). AllByRecursion IsSpare (idle_at stage v.mine v.gathered)) waiting view.idle in
    let told = sees terms h.served h.history h.stopped v.mine _ accounts.0 h.follows h.fits (second s.words _ _ h.words) in
    let mine : Account = after_load v.mine h.history h.stopped in
    let new_accounts : AllByRecursion (AccountIs terms h.history h.stopped) (mine ∷ v.gathered) = (account_sees terms h.history h.stopped v.mine accounts.0, accounts.1) in
    let reason = still_reason terms h.history h.stopped v.mine accounts.0 busy.reason in
    let is_ticket : (t : ℕ) → v.stage ≡ Waiting t → ticket ≡ t = λ t is. same_ticket v ticket t has (ap ticket_of is) in
    dite (ℕ_discrete h.served ticket)
    (λ (hit : h.served ≡ ticket).
    let w : View = record v { stage = InTurn ticket; mine = mine } in
    let has_served : HasTicket v h.served = has ∙ ap (λ (n : ℕ). Some n) (sym hit) in
    let none_in_turn : NoneIsInTurn s.views = λ j u e is. waiting_not_turn v ticket waiting
    (subst IsInTurn (same_place s.views j id u v e at (only_turn h.drawn h.served s.views id v h.tickets h.turn at has_served j u e is)) is) in
    let home = h.slot.home none_in_turn in
    let stands = h.memory.stands home.0 home.1 in
    let new_view : ViewIs terms h.history h.stopped w = record {
      accounts = new_accounts;
      idle = others;
      busy = λ t _. record { goes_on = busy.goes_on; reason = reason; number = busy.number; one = busy.one; alone = busy.alone };
      turn = λ _. (refl, refl);
    } in (
      w,
      takes 0 (Some home.0),
      ap (λ (hs : List (Option Held)). get_elem? hs 0) home.1,
      turns_of terms _ record {
        drawn = h.drawn;
        served = h.served;
        history = h.history;
        stopped = h.stopped;
        words = same_words s.words _ _ h.words;
        tickets = keep_with h.drawn h.served s.views id v w ticket h.tickets at has refl;
        turn = all_set (λ j (u : View). (t : ℕ) → u.stage ≡ InTurn t → t ≡ h.served) s.views id w
            (λ t is. same_ticket w t ticket (turn_ticket w t is) refl ∙ sym hit) (λ j u other e. h.turn j u e);
        each = all_set (λ j (u : View). ViewIs terms h.history h.stopped u) s.views id w new_view (λ j u other e. h.each j u e);
        once = λ x. same_total (λ a. times x a.numbers) s.views id v w at active refl refl refl ∙ h.once x;
        all = same_total (λ a. length a.numbers) s.views id v w at active refl refl refl ∙ h.all;
        sum = same_total (λ a. a.drawn) s.views id v w at active refl refl refl ∙ h.sum;
        follows = h.follows;
        small = h.small;
        short = h.short;
        fits = h.fits;
        slot = record {
          out = λ j u e is. ap (λ (hs : List (Option Held)). set hs 0 none) home.1;
          home = λ none_now. absurd (none_now id w (set_there s.views id v w at) (ticket, refl));
        };
        memory = record {
          stands = λ memory is. absurd (out_of s.homes home.0 memory home.1 is);
          front = λ memory is. absurd (out_of s.homes home.0 memory home.1 is);
        };
      },
      record {
        served = h.served;
        sees = told;
        comes = λ t is. inl record {
          memory = home.0;
          served_now = hit ∙ is_ticket t is;
          in_turn = λ i. (record v { stage = InTurn (is_ticket t is i); mine = mine }, (0, Some home.0) ∷ []);
          stands = λ other carried. subst (λ (x : Terms). IsMemoryOf x h.history home.0) (same_Some terms other (sym accounts.0.carried ∙ carried)) stands;
          kept = h.memory.front home.0 home.1;
        };
      },
    ))
    (λ (miss : h.served ≢ ticket).
    let w : View = record v { mine = mine } in
    let active_new = waiting_active w ticket waiting in
    let new_view : ViewIs terms h.history h.stopped w = record {
      accounts = subst (λ xs. AllByRecursion (AccountIs terms h.history h.stopped) xs) (sym active_new) new_accounts;
      idle = subst (λ (stage : Stage). AllByRecursion IsSpare (idle_at stage w.mine w.gathered)) (sym waiting) others;
      busy = λ t _. record { goes_on = busy.goes_on; reason = reason; number = busy.number; one = busy.one; alone = busy.alone };
      turn = λ is. absurd (waiting_not_turn v ticket waiting is);
    } in (
      w,
      keeps,
      tt,
      changes terms s (set s.words 1 (slice_index s.words 1)) id v w h h.drawn at (same_words s.words _ _ h.words)
          (keep_with h.drawn h.served s.views id v w ticket h.tickets at has has) new_view (waiting_not_turn v ticket waiting) (waiting_not_turn w ticket waiting) active active_new refl refl refl,
      record { served = h.served; sees = told; comes = λ t is. inr record { not_served = λ served. miss (served ∙ sym (is_ticket t is)); same = refl } },
    ))

-- ---- the end of a turn

-- what the account of a seat owes of its tickets after the turn
record Bounds (terms : Terms) (drawn made waited : ℕ) (given_up : Bool) : Type 0 where
  within : waited ≤ terms.bound
  few : drawn ≤ made + waited + 1
  spare : given_up ≡ false → drawn ≤ made + waited

one_time : (u : ℕ) → times u (u ∷ []) ≡ 1
one_time u = grind (arith, nat_tests)

pub has_one : (u : ℕ) → 0 < times u (u ∷ [])
has_one u = omega (arith, one_time u)

pub only_number : (x u : ℕ) → 0 < times x (u ∷ []) → x ≡ u
only_number x u h = grind (arith, nat_tests)

-- how the history grew
grows_of : (how : Ending) (seen history : List Entry) (stopped : Bool) (number : ℕ) (memory : Execution) → seen ≡ history → Leaves how seen number memory
    → (stopped ≡ true → (memory.history ≡ seen) × (is_some memory.verdict ≡ true)) → Grows history memory.history stopped (is_some memory.verdict) number
grows_of how seen history stopped number memory is leaves stays = by how leaves
  where
    not_more : memory.history ≡ seen → Grows history memory.history stopped (is_some memory.verdict) number
    not_more same = record {
      longer = subst (λ (ys : List Entry). IsPrefix ys memory.history) is (subst (λ (ys : List Entry). IsPrefix seen ys) (sym same) (prefix_self seen));
      elsewhere = λ x other. ap (λ (ys : List Entry). own_steps ys x) (same ∙ is);
      stays = λ e. let x = stays e in (x.1, x.0 ∙ is);
    }

    by : (how : Ending) → Leaves how seen number memory → Grows history memory.history stopped (is_some memory.verdict) number
    by went x = record {
      longer = (x.0 ∷ [], ap (λ (ys : List Entry). ys ++ x.0 ∷ []) (sym is) ∙ sym x.3);
      elsewhere = λ u other. ap (λ (ys : List Entry). own_steps ys u) x.3 ∙ (others_same seen x.0 u (λ same. other (sym same ∙ x.1)) ∙ ap (λ (ys : List Entry). own_steps ys u) is);
      stays = λ e. let y = stays e in (y.1, y.0 ∙ is);
    }
    by waits x = not_more x.0
    by for_good x = not_more x

-- a memory without a verdict has made fewer steps than the bound
undecided_below : (bound : ℕ) (history : List Entry) → StepVerdict bound history None → step_count history ≤ bound → step_count history + 1 ≤ bound
undecided_below bound history stands le = let differs : step_count history ≢ bound = not_bound bound history None stands refl in omega (arith, le, differs)
  where
    not_bound : (bound : ℕ) (history : List Entry) (v : Kept Verdict) → StepVerdict bound history v → v ≡ None → step_count history ≢ bound
    not_bound bound history _ (by_last l) is = absurd cc
    not_bound bound history _ (by_bound l same) is = absurd cc
    not_bound bound history _ (undecided l differ) is = differ

-- the tickets that were drawn are accounted for, however the turn ends
bounds_of : (how : Ending) (terms : Terms) (history : List Entry) (stopped : Bool) (v : View) (number : ℕ) (memory : Execution) → AccountIs terms history stopped v.mine → IsBusy v → v.mine.seen ≡ history
    → v.mine.numbers ≡ number ∷ [] → IsMemoryOf terms memory.history memory → step_count memory.history ≤ terms.bound → Leaves how v.mine.seen number memory → (v.mine.stopped ≡ true → is_some memory.verdict ≡ true)
    → Bounds terms v.mine.drawn (length (own_steps memory.history number)) (waited_after how v.mine memory.history) (gives_up how)
bounds_of how terms history stopped v number memory own busy seen one stands short leaves stays = by how leaves
  where
    made : v.mine.made ≡ own_steps v.mine.seen number
    made = own.made number (subst (λ (ns : List ℕ). 0 < times number ns) (sym one) (has_one number)) ∙ ap (λ (ys : List Entry). own_steps ys number) (sym seen)

    same : memory.history ≡ v.mine.seen → length (own_steps memory.history number) ≡ length v.mine.made
    same is = ap length (ap (λ (ys : List Entry). own_steps ys number) is ∙ sym made)

    by : (how : Ending) → Leaves how v.mine.seen number memory → Bounds terms v.mine.drawn (length (own_steps memory.history number)) (waited_after how v.mine memory.history) (gives_up how)
    by went x =
        let gained : own_steps memory.history number ≡ v.mine.made ++ x.0 ∷ [] =
        ap (λ (ys : List Entry). own_steps ys number) x.3 ∙ (own_gained v.mine.seen x.0 number x.1 x.2 ∙ ap (λ (ys : List Entry). ys ++ x.0 ∷ []) (sym made)) in
        let long : length (own_steps memory.history number) ≡ length v.mine.made + 1 = ap length gained ∙ length-append v.mine.made (x.0 ∷ []) in
        let few = own.few in
        record { within = own.waited; few = omega (arith, few, long); spare = λ _. omega (arith, few, long) }
    by waits x =
        let long = same x.0 in
        let room = undecided_below terms.bound memory.history (stands.ready.undecided x.1) short in
        let counts : step_count v.mine.seen ≡ step_count memory.history = ap step_count (sym x.0) in
        let reason : v.mine.waited ≤ step_count v.mine.seen = ⊎_elim (λ (y : v.mine.waited ≤ step_count v.mine.seen). y)
        (λ (y : v.mine.stopped ≡ true). let clash : false ≡ true = sym (ap is_some x.1) ∙ stays y in absurd cc) busy.reason in
        let few = own.few in
        record { within = room; few = omega (arith, few, long, counts, reason); spare = λ _. omega (arith, few, long, counts, reason) }
    by for_good x =
        let long = same x in
        let few = own.few in
        record { within = own.waited; few = omega (arith, few, long); spare = λ e. absurd (let clash : true ≡ false = e in cc) }

pub turn_ends : (how : Ending) (terms : Terms) (slots id : ℕ) (v : View) (held : List (ℕ × Held)) (front : ℕ) → (may : MayEnd how (v, held) front)
    → Allows (TakeTurns terms) slots id (v, (0, Some may.memory) ∷ []) 1 (λ _. front) (λ found after. EndsTurn how (v, (0, Some may.memory) ∷ []) after)
turn_ends how terms slots id v held front may s rule homes at small =
    let h = table_of terms s rule in
    let memory = may.memory in
    let number = may.number in
    let g = memory.history in
    let kept = is_some memory.verdict in
    let w : View = record v { stage = Idle; mine = account_after how v.mine memory } in
    let in_turn : IsInTurn v = (may.ticket, may.turn) in
    let active = turn_active v may.ticket may.turn in
    let has : HasTicket v may.ticket = ap ticket_of may.turn in
    let served : may.ticket ≡ h.served = h.turn id v at may.ticket may.turn in
    let has_served : HasTicket v h.served = has ∙ ap (λ (n : ℕ). Some n) served in
    let view = h.each id v at in
    let accounts = the_accounts terms h.history h.stopped v view active in
    let own = accounts.0 in
    let busy = view.busy may.ticket has in
    let turn = view.turn in_turn in
    let same_terms : may.terms ≡ terms = same_Some may.terms terms (sym may.carried ∙ own.carried) in
    let stands : IsMemoryOf terms g memory = subst (λ (t : Terms). IsMemoryOf t g memory) same_terms may.stands in
    let short : step_count g ≤ terms.bound = subst (λ (t : Terms). step_count g ≤ t.bound) same_terms may.short in
    let bounds = bounds_of how terms h.history h.stopped v number memory own busy turn.0 may.one stands short may.leaves (λ e. (may.stays e).1) in
    let first : first_number v.mine.numbers ≡ number = ap first_number may.one in
    let grows : Grows h.history g h.stopped kept number = grows_of how v.mine.seen h.history h.stopped number memory turn.0 may.leaves (λ e. may.stays (turn.1 ∙ e)) in
    let has_number : over (λ (a : Account). times number a.numbers) v ≡ 1 =
    let a = over_active (λ (x : Account). times number x.numbers) v active in
    let b : total (λ (x : Account). times number x.numbers) v.gathered ≡ 0 = ap (λ (xs : List Account). total (λ (x : Account). times number x.numbers) xs) busy.alone in
    let e : times number v.mine.numbers ≡ 1 = ap (times number) may.one ∙ one_time number in omega (arith, a, b, e) in
    let not_else : (j : ℕ) (u : View) → j ≢ id → get_elem? s.views j ≡ some u → over (λ (a : Account). times number a.numbers) u ≤ 0 = λ j u other e.
    omega (arith, total_two (over (λ (a : Account). times number a.numbers)) s.views id j v u at e other, h.once number, below_one number, has_number) in
    let out : s.homes ≡ none ∷ [] = h.slot.out id v at in_turn in
    let home : set s.homes 0 (some (Some memory)) ≡ some (Some memory) ∷ [] = ap (λ (hs : List (Option Held)). set hs 0 (some (Some memory))) out in
    let is_it : (other : Execution) → set s.homes 0 (some (Some memory)) ≡ some (Some other) ∷ [] → memory ≡ other = λ other e. let both : some (Some memory) ∷ [] ≡ some (Some other) ∷ [] = sym home ∙ e in cc in
    let elsewhere : (j : ℕ) (u : View) → j ≢ id → get_elem? s.views j ≡ some u → IsInTurn u → ⊥ = λ j u other e is. other (only_turn h.drawn h.served s.views id v h.tickets h.turn at has_served j u e is) in
    let long : length (own_steps g (first_number v.mine.numbers)) ≡ length (own_steps g number) = ap (λ (k : ℕ). length (own_steps g k)) first in
    let new_account : AccountIs terms g kept w.mine = record {
      seen = prefix_self g;
      stops = λ e. (e, refl);
      carried = own.carried;
      some_number = own.some_number;
      made = λ x has_x. ap (λ (k : ℕ). own_steps g k) (first ∙ sym (only_number x number (subst (λ (ns : List ℕ). 0 < times x ns) may.one has_x)));
      waited = bounds.within;
      few = let x = bounds.few in omega (arith, x, long);
    } in
    let no_others : v.gathered ≡ [] = busy.alone in
    let new_view : ViewIs terms g kept w = record {
      accounts = (new_account, subst (λ xs. AllByRecursion (AccountIs terms g kept) xs) (sym no_others) tt);
      idle = ((λ on. let x = bounds.spare on in omega (arith, x, long)), subst (λ xs. AllByRecursion IsSpare xs) (sym no_others) tt);
      busy = λ t has_t. absurd (let clash : None ≡ Some t = has_t in cc);
      turn = λ is. absurd (idle_not_turn w refl is);
    } in (
      w,
      gives,
      tt,
      turns_of terms _ record {
        drawn = h.drawn;
        served = h.served + 1;
        history = g;
        stopped = kept;
        words = ap (λ (ws : List ℕ). set ws 1 front) h.words ∙ (λ i. h.drawn ∷ (may.is_front ∙ ap (λ (k : ℕ). second_word (k + 1) (length g) kept) served) i ∷ []);
        tickets = end_turn h.drawn h.served s.views id v w h.tickets at has_served refl;
        turn = all_set (λ j (u : View). (t : ℕ) → u.stage ≡ InTurn t → t ≡ h.served + 1) s.views id w (λ t is. absurd (idle_not_turn w refl (t, is)))
            (λ j u other e t is. absurd (elsewhere j u other e (t, is)));
        each = all_set (λ j (u : View). ViewIs terms g kept u) s.views id w new_view
            (λ j u other e. view_grows terms h.history g h.stopped kept number u grows (not_else j u other e) (elsewhere j u other e) (h.each j u e));
        once = λ x. same_total (λ a. times x a.numbers) s.views id v w at active refl refl refl ∙ h.once x;
        all = same_total (λ a. length a.numbers) s.views id v w at active refl refl refl ∙ h.all;
        sum = same_total (λ a. a.drawn) s.views id v w at active refl refl refl ∙ h.sum;
        follows = subst (λ (t : Terms). FollowsTerms t g) same_terms may.follows;
        small = h.small;
        short = short;
        fits = may.fits;
        slot = record {
          out = all_set (λ j (u : View). IsInTurn u → set s.homes 0 (some (Some memory)) ≡ none ∷ []) s.views id w (λ is. absurd (idle_not_turn w refl is)) (λ j u other e is. absurd (elsewhere j u other e is));
          home = λ none_now. (memory, home, refl);
        };
        memory = record {
          stands = λ other e. subst (λ (m : Execution). IsMemoryOf terms g m) (is_it other e) stands;
          front = λ other e. ap (λ (m : Execution). is_some m.verdict) (sym (is_it other e));
        };
      },
      refl,
    )
  where
    below_one : (x : ℕ) → once_below x thread_limit ≤ 1
    below_one x = grind (arith, nat_tests)
