-- The opening, splits, joins and the end keep the rule.
use Rattle.std.proofs.Common.{◌≡◌, ℕ, zero, suc, ◌+◌, ◌≤◌, Bool, true, false, ◌&&◌, cond, List, [], ◌∷◌, ◌++◌, length, Some, None, refl, sym, ap, ◌∙◌, subst, arith, nat_eq}
use Rattle.std.specs.Prelude.{is_some, if◌then◌else◌, Option as Kept}
use Rattle.std.proofs.lemmas.Bool.Decides.{nat_tests}
use Rattle.std.specs.List.{AllByRecursion}
use Rattle.std.proofs.Math.ListN.{set}
use mathlib.Core.Option.{Option, some, some-injective, some-ne-none}
use lib.ListN.{get_elem?}
use Rattle.atomic_table.specs.Table.{State, Splits, Joins, opening}
use Rattle.atomic_table.proofs.Lists.{set_else}
use Rattle.c11_events.specs.declared.cells.CellInfo.{CellInfo}
use Rattle.c11_events.specs.declared.entry.Entry.{Entry}
use Rattle.c11_events.specs.declared.op.Op.TheVariants.{Init}
use Rattle.c11_events.specs.declared.reply.Reply.TheVariants.{Done}
use Rattle.c11_events.specs.Replies.{thread_limit}
use Rattle.c11_events.specs.Steps.{init_entries, init_from, own_steps, step_count}
use Rattle.c11_turn.specs.declared.terms.Terms.{Terms}
use Rattle.c11_memory.specs.Execution.{Execution}
use Rattle.c11_turn.specs.Hand.{FollowsTerms, IsMemoryOf, program_in}
use Rattle.c11_session.specs.declared.rule.Account.{Account}
use Rattle.c11_session.specs.declared.rule.Stage.{Stage}
use Rattle.c11_session.specs.declared.rule.Stage.TheVariants.{Idle, InTurn, Spent}
use Rattle.c11_session.specs.declared.rule.View.{View}
use Rattle.c11_session.specs.Views.{Each, HasTicket, accounts_at, idle_at, idle_of, ticket_of, total, over, times, once_below, countdown, second_word}
use Rattle.c11_session.specs.Turns.{Held, IsInTurn, NoneIsInTurn, TakeTurns, first_view}
use Rattle.c11_session.specs.Steps.{all_but_one, but_first, first_number, gathering, one_of, spent_view}
use Rattle.c11_session.proofs.Lists.{total_set, total_snoc, total_two, total-append, all_set, all_snoc, prefix_self, every-append}
use Rattle.c11_session.proofs.Tickets.{HasNone, idle_not_turn, keep_without, not_here, one_more}
use Rattle.c11_session.proofs.Accounts.{AccountIs, IsActive, IsSpare, ViewIs, idle_active, over_active}
use Rattle.c11_session.proofs.Keeping.{slot_more, slot_set, table_of, the_accounts, turns_of}

no_tickets : (v : View) → v.stage ≡ Idle → HasNone v
no_tickets v idle = ap ticket_of idle

no_busy : (v : View) (t : ℕ) → HasNone v → HasTicket v t → ⊥
no_busy v t without has = let clash : None ≡ Some t = sym without ∙ has in cc

the_idle : (v : View) → v.stage ≡ Idle → AllByRecursion IsSpare (idle_of v) → AllByRecursion IsSpare (v.mine ∷ v.gathered)
the_idle v idle h = subst (λ (stage : Stage). AllByRecursion IsSpare (idle_at stage v.mine v.gathered)) idle h

-- ---- the opening

count_down : (x n : ℕ) → times x (countdown n) ≡ once_below x n
count_down x zero = grind (arith, nat_tests)
count_down x (suc n) = more (once_below x n) (count_down x n) refl
  where
    more : (m : ℕ) → times x (countdown n) ≡ m → m ≡ once_below x n → (if nat_eq x n then 1 else 0) + times x (countdown n) ≡ once_below x (suc n)
    more m is is_below = grind (arith, nat_tests)

-- no thread has made a step
pub init_own : (n u : ℕ) (cells : List CellInfo) → own_steps (init_from n cells) u ≡ []
init_own n u [] = refl
init_own n u (info ∷ cells) = no_step (nat_eq 0 u) (init_own (suc n) u cells)
  where
    no_step : (b : Bool) → own_steps (init_from (suc n) cells) u ≡ []
        → cond (b && false) (record { number = n + 1; thread = 0; line = 0; op = Init n info.initial; reply = Done; from = 0; offered = [] } ∷ own_steps (init_from (suc n) cells) u) (own_steps (init_from (suc n) cells) u) ≡ []
    no_step true rest = rest
    no_step false rest = rest

first_only : (v : View) (id : ℕ) (u : View) → get_elem? (v ∷ []) id ≡ some u → v ≡ u
first_only v zero u at = some-injective v u at
first_only v (suc id) u at = absurd (some-ne-none u (sym at))

pub opens : (terms : Terms) (memory : Execution) (front : ℕ) → IsMemoryOf terms (init_entries (program_in terms).setting.atomic) memory → FollowsTerms terms (init_entries (program_in terms).setting.atomic)
    → memory.verdict ≡ None → step_count (init_entries (program_in terms).setting.atomic) ≤ terms.bound → length (init_entries (program_in terms).setting.atomic) ≤ 14096 → front ≡ second_word 0 (length (init_entries (program_in terms).setting.atomic)) false
    → TakeTurns terms (opening (0 ∷ front ∷ []) (Some memory ∷ []) (first_view terms))
opens terms memory front is follows unkept short fits is_front =
    let start = init_entries (program_in terms).setting.atomic in
    let v = first_view terms in
    let only : (id : ℕ) (u : View) → get_elem? (v ∷ []) id ≡ some u → v ≡ u = λ id u at. first_only v id u at in
    let no_ticket : (u : View) → v ≡ u → (t : ℕ) → HasTicket u t → ⊥ = λ u same t has. no_busy u t (sym (ap (λ (x : View). ticket_of x.stage) same)) has in
    let none_in_turn : NoneIsInTurn (v ∷ []) = λ id u at turn. idle_not_turn u (sym (ap (λ (x : View). x.stage) (only id u at))) turn in
    let is_it : (other : Execution) → some (Some memory) ∷ [] ≡ some (Some other) ∷ [] → memory ≡ other = λ other e. cc in
    let own : AccountIs terms start false v.mine = record {
      seen = prefix_self start;
      stops = λ e. absurd (let clash : false ≡ true = e in cc);
      carried = refl;
      some_number = omega arith;
      made = λ x has. sym (init_own 0 x (program_in terms).setting.atomic);
      waited = omega arith;
      few = omega arith;
    } in
    let view : ViewIs terms start false v = record {
      accounts = (own, tt);
      idle = ((λ _. omega arith), tt);
      busy = λ t has. absurd (no_busy v t refl has);
      turn = λ turn. absurd (idle_not_turn v refl turn);
    } in
    turns_of terms _ record {
      drawn = 0;
      served = 0;
      history = start;
      stopped = false;
      words = λ i. 0 ∷ is_front i ∷ [];
      tickets = record {
        order = omega arith;
        somewhere = λ t low high. absurd (omega arith);
        once = λ t i j a b at_a at_b has_a has_b. absurd (no_ticket a (only i a at_a) t has_a);
        no_other = λ id u at t has. absurd (no_ticket u (only id u at) t has);
      };
      turn = λ id u at t turn. absurd (none_in_turn id u at (t, turn));
      each = λ id u at. subst (λ (x : View). ViewIs terms start false x) (only id u at) view;
      once = λ x. omega (arith, count_down x thread_limit);
      all = refl;
      sum = refl;
      follows = follows;
      small = is.ready.few_steps;
      short = short;
      fits = fits;
      slot = record { out = λ id u at turn. absurd (none_in_turn id u at turn); home = λ _. (memory, refl, is.home.entries) };
      memory = record {
        stands = λ other e. subst (λ (m : Execution). IsMemoryOf terms start m) (is_it other e) is;
        front = λ other e. ap (λ (m : Execution). is_some m.verdict) (sym (is_it other e)) ∙ ap (λ (k : Kept _). is_some k) unkept;
      };
    }

-- ---- a split

pub splits : (terms : Terms) (id : ℕ) (v : View) (n m : ℕ) (ns : List ℕ) → v.stage ≡ Idle → v.mine.made ≡ [] → v.mine.numbers ≡ n ∷ m ∷ ns
    → Splits (TakeTurns terms) id v (all_but_one v) (one_of v)
splits terms id v n m ns idle none_made two s rule at =
    let h = table_of terms s rule in
    let left = all_but_one v in
    let right = one_of v in
    let active = idle_active v idle in
    let active_left = idle_active left idle in
    let view = h.each id v at in
    let accounts = the_accounts terms h.history h.stopped v view active in
    let own = accounts.0 in
    let spares = the_idle v idle view.idle in
    let views = set s.views id left in
    let counts : (x : ℕ) → times x v.mine.numbers ≡ times x (first_number v.mine.numbers ∷ []) + times x (but_first v.mine.numbers) = λ x.
    let a : times x v.mine.numbers ≡ times x (n ∷ m ∷ ns) = ap (times x) two in
    let b : times x (but_first v.mine.numbers) ≡ times x (m ∷ ns) = ap (λ (k : List ℕ). times x (but_first k)) two in
    let e : times x (first_number v.mine.numbers ∷ []) ≡ times x (n ∷ []) = ap (λ (k : List ℕ). times x (first_number k ∷ [])) two in omega (arith, a, b, e) in
    let rest : length (but_first v.mine.numbers) ≡ length (m ∷ ns) = ap (λ (k : List ℕ). length (but_first k)) two in
    let lengths : length v.mine.numbers ≡ 1 + length (but_first v.mine.numbers) = let a : length v.mine.numbers ≡ length (n ∷ m ∷ ns) = ap length two in omega (arith, a, rest) in
    let left_own : AccountIs terms h.history h.stopped left.mine = record {
      seen = own.seen;
      stops = own.stops;
      carried = own.carried;
      some_number = omega (arith, rest);
      made = λ x has. own.made x (let c = counts x in omega (arith, c, has));
      waited = own.waited;
      few = own.few;
    } in
    let right_own : AccountIs terms h.history h.stopped right.mine = record {
      seen = own.seen;
      stops = own.stops;
      carried = own.carried;
      some_number = omega arith;
      made = λ x has. sym none_made ∙ own.made x (let c = counts x in omega (arith, c, has));
      waited = omega arith;
      few = omega arith;
    } in
    let left_view : ViewIs terms h.history h.stopped left = record {
      accounts = subst (λ xs. AllByRecursion (AccountIs terms h.history h.stopped) xs) (sym active_left) (left_own, accounts.1);
      idle = subst (λ (stage : Stage). AllByRecursion IsSpare (idle_at stage left.mine left.gathered)) (sym idle) (spares.0, spares.1);
      busy = λ t has. absurd (no_busy v t (no_tickets v idle) has);
      turn = λ turn. absurd (idle_not_turn v idle turn);
    } in
    let right_view : ViewIs terms h.history h.stopped right = record {
      accounts = (right_own, tt);
      idle = ((λ _. omega arith), tt);
      busy = λ t has. absurd (no_busy right t refl has);
      turn = λ turn. absurd (idle_not_turn right refl turn);
    } in
    let sums : (f : Account → ℕ) → f left.mine + f right.mine ≡ f v.mine → total (over f) (views ++ right ∷ []) ≡ total (over f) s.views = λ f parts.
    omega (arith, total_snoc (over f) views right, total_set (over f) s.views id v left at, over_active f v active, over_active f left active_left, parts) in
    turns_of terms _ record {
      drawn = h.drawn;
      served = h.served;
      history = h.history;
      stopped = h.stopped;
      words = h.words;
      tickets = one_more h.drawn h.served views right (keep_without h.drawn h.served s.views id v left h.tickets at (no_tickets v idle) (no_tickets left idle)) refl;
      turn = all_snoc (λ (u : View). (t : ℕ) → u.stage ≡ InTurn t → t ≡ h.served) views right (λ t turn. absurd (idle_not_turn right refl (t, turn)))
          (all_set (λ j (u : View). (t : ℕ) → u.stage ≡ InTurn t → t ≡ h.served) s.views id left (λ t turn. absurd (idle_not_turn left idle (t, turn))) (λ j u other e. h.turn j u e));
      each = all_snoc (λ (u : View). ViewIs terms h.history h.stopped u) views right right_view
          (all_set (λ j (u : View). ViewIs terms h.history h.stopped u) s.views id left left_view (λ j u other e. h.each j u e));
      once = λ x. sums (λ a. times x a.numbers) (let c = counts x in omega (arith, c)) ∙ h.once x;
      all = sums (λ a. length a.numbers) (omega (arith, lengths)) ∙ h.all;
      sum = sums (λ a. a.drawn) (omega arith) ∙ h.sum;
      follows = h.follows;
      small = h.small;
      short = h.short;
      fits = h.fits;
      slot = slot_more h.history record { words = s.words; homes = s.homes; views = views } right (slot_set h.history s s.words id v left h.slot at (idle_not_turn v idle) (idle_not_turn left idle)) (idle_not_turn right refl);
      memory = record { stands = h.memory.stands; front = h.memory.front };
    }

-- ---- a join

pub joins : (terms : Terms) (id : ℕ) (v : View) (other : ℕ) (w : View) → v.stage ≡ Idle → w.stage ≡ Idle → w.gathered ≡ []
    → Joins (TakeTurns terms) id v other w (gathering v w) spent_view
joins terms id v other w idle idle_w alone s rule at apart at_other =
    let h = table_of terms s rule in
    let both = gathering v w in
    let views = set s.views id both in
    let active = idle_active v idle in
    let active_both = idle_active both idle in
    let active_w = idle_active w idle_w in
    let theirs : get_elem? s.views other ≡ some w = sym (set_else s.views id other both apart) ∙ at_other in
    let view = h.each id v at in
    let view_w = h.each other w theirs in
    let accounts = the_accounts terms h.history h.stopped v view active in
    let accounts_w = the_accounts terms h.history h.stopped w view_w active_w in
    let spares = the_idle v idle view.idle in
    let spares_w = the_idle w idle_w view_w.idle in
    let not_spent : IsInTurn spent_view → ⊥ = λ turn. let clash : Spent ≡ InTurn turn.0 = turn.1 in cc in
    let both_view : ViewIs terms h.history h.stopped both = record {
      accounts = subst (λ xs. AllByRecursion (AccountIs terms h.history h.stopped) xs) (sym active_both)
          (accounts.0, every-append (AccountIs terms h.history h.stopped) v.gathered (w.mine ∷ []) accounts.1 (accounts_w.0, tt));
      idle = subst (λ (stage : Stage). AllByRecursion IsSpare (idle_at stage both.mine both.gathered)) (sym idle)
          (spares.0, every-append IsSpare v.gathered (w.mine ∷ []) spares.1 (spares_w.0, tt));
      busy = λ t has. absurd (no_busy v t (no_tickets v idle) has);
      turn = λ turn. absurd (idle_not_turn v idle turn);
    } in
    let spent : ViewIs terms h.history h.stopped spent_view = record {
      accounts = tt;
      idle = tt;
      busy = λ t has. absurd (no_busy spent_view t refl has);
      turn = λ turn. absurd (not_spent turn);
    } in
    let sums : (f : Account → ℕ) → total (over f) (set views other spent_view) ≡ total (over f) s.views = λ f.
    let gathered_w : total f w.gathered ≡ 0 = ap (λ accounts. total f accounts) alone in
    omega (arith, total_set (over f) views other w spent_view at_other, total_set (over f) s.views id v both at, over_active f v active, over_active f both active_both, over_active f w active_w, gathered_w, total-append f v.gathered (w.mine ∷ [])) in
    turns_of terms _ record {
      drawn = h.drawn;
      served = h.served;
      history = h.history;
      stopped = h.stopped;
      words = h.words;
      tickets = keep_without h.drawn h.served views other w spent_view (keep_without h.drawn h.served s.views id v both h.tickets at (no_tickets v idle) (no_tickets both idle)) at_other (no_tickets w idle_w) refl;
      turn = all_set (λ j (u : View). (t : ℕ) → u.stage ≡ InTurn t → t ≡ h.served) views other spent_view (λ t turn. absurd (not_spent (t, turn)))
          (λ k x else_k e t turn. all_set (λ j (u : View). (t : ℕ) → u.stage ≡ InTurn t → t ≡ h.served) s.views id both (λ t turn. absurd (idle_not_turn both idle (t, turn))) (λ j u elsewhere e. h.turn j u e) k x e t turn);
      each = all_set (λ j (u : View). ViewIs terms h.history h.stopped u) views other spent_view spent
          (λ k x else_k e. all_set (λ j (u : View). ViewIs terms h.history h.stopped u) s.views id both both_view (λ j u elsewhere e. h.each j u e) k x e);
      once = λ x. sums (λ a. times x a.numbers) ∙ h.once x;
      all = sums (λ a. length a.numbers) ∙ h.all;
      sum = sums (λ a. a.drawn) ∙ h.sum;
      follows = h.follows;
      small = h.small;
      short = h.short;
      fits = h.fits;
      slot = slot_set h.history record { words = s.words; homes = s.homes; views = views } s.words other w spent_view (slot_set h.history s s.words id v both h.slot at (idle_not_turn v idle) (idle_not_turn both idle)) at_other (idle_not_turn w idle_w) not_spent;
      memory = record { stands = h.memory.stands; front = h.memory.front };
    }

-- ---- the end

-- where an idle view has all numbers, none is in turn
none_else : (terms : Terms) (history : List Entry) (stopped : Bool) (views : List View) (id : ℕ) (v : View) → Each (ViewIs terms history stopped) views
    → total (over (λ (a : Account). length a.numbers)) views ≡ thread_limit → get_elem? views id ≡ some v → v.stage ≡ Idle → thread_limit ≤ over (λ (a : Account). length a.numbers) v → NoneIsInTurn views
none_else terms history stopped views id v each all at idle many j u e turn =
    let f : Account → ℕ = λ a. length a.numbers in
    let active : IsActive u = ap (λ stage. accounts_at stage u.mine u.gathered) turn.1 in
    let some_number = (the_accounts terms history stopped u (each j u e) active).0.some_number in
    omega (arith, total_two (over (λ (a : Account). length a.numbers)) views id j v u at e (not_here views id v at (idle_not_turn v idle) j u e turn), all, many, over_active (λ (a : Account). length a.numbers) u active, some_number)

many_accounts : (terms : Terms) (history : List Entry) (stopped : Bool) (accounts : List Account) → AllByRecursion (AccountIs terms history stopped) accounts → length accounts ≤ total (λ (a : Account). length a.numbers) accounts
many_accounts terms history stopped [] h = omega arith
many_accounts terms history stopped (a ∷ accounts) h = let x = h.0.some_number in let rest = many_accounts terms history stopped accounts h.1 in omega (arith, x, rest)

-- what is known where one view stands for all
pub record Closes (terms : Terms) (v : View) (memory : Execution) : Type 0 where
  pub stopped : Bool
  pub stands : IsMemoryOf terms memory.history memory
  pub follows : FollowsTerms terms memory.history
  pub kept : is_some memory.verdict ≡ stopped
  pub accounts : AllByRecursion (AccountIs terms memory.history stopped) (v.mine ∷ v.gathered)

pub closes : (terms : Terms) (s : State Held View) (id : ℕ) (v : View) → TakeTurns terms s → get_elem? s.views id ≡ some v → v.stage ≡ Idle → length v.gathered + 1 ≡ thread_limit
    → (memory : Execution) × (get_elem? s.homes 0 ≡ some (some (Some memory))) × Closes terms v memory
closes terms s id v rule at idle all_seats =
    let h = table_of terms s rule in
    let active = idle_active v idle in
    let accounts = the_accounts terms h.history h.stopped v (h.each id v at) active in
    let many = many_accounts terms h.history h.stopped (v.mine ∷ v.gathered) accounts in
    let alone = none_else terms h.history h.stopped s.views id v h.each h.all at idle (omega (arith, many, all_seats, over_active (λ (a : Account). length a.numbers) v active)) in
    let home = h.slot.home alone in (
      home.0,
      ap (λ (hs : List (Option Held)). get_elem? hs 0) home.1,
      record {
        stopped = h.stopped;
        stands = subst (λ (ys : List Entry). IsMemoryOf terms ys home.0) (sym home.2) (h.memory.stands home.0 home.1);
        follows = subst (λ (ys : List Entry). FollowsTerms terms ys) (sym home.2) h.follows;
        kept = h.memory.front home.0 home.1;
        accounts = subst (λ (ys : List Entry). AllByRecursion (AccountIs terms ys h.stopped) (v.mine ∷ v.gathered)) (sym home.2) accounts;
      },
    )
