-- What is kept of each view, and what an entry more does to it.
use Rattle.std.proofs.Common.{◌≡◌, ◌≢◌, ℕ, ◌+◌, ◌*◌, ◌<◌, ◌≤◌, Bool, true, false, not, ◌&&◌, cond, List, [], ◌∷◌, ◌++◌, length, filter, Some, sym, ap, ◌∙◌, arith, nat_eq, length-append}
use Rattle.std.specs.Prelude.{if◌then◌else◌}
use Rattle.std.proofs.lemmas.Bool.Decides.{nat_tests}
use Rattle.std.proofs.lemmas.List.Elements.{filter-append}
use Rattle.std.specs.List.{AllByRecursion}
use mathlib.Core.List.{IsPrefix}
use Rattle.c11_events.specs.declared.entry.Entry.{Entry}
use Rattle.c11_events.specs.Replies.{thread_limit}
use Rattle.c11_events.specs.Steps.{is_init, own_steps, step_count}
use Rattle.c11_turn.specs.declared.terms.Terms.{Terms}
use Rattle.c11_session.specs.declared.rule.Account.{Account}
use Rattle.c11_session.specs.declared.rule.Stage.TheVariants.{Idle, Waiting, InTurn}
use Rattle.c11_session.specs.declared.rule.View.{View}
use Rattle.c11_session.specs.Views.{HasTicket, HasNumber, Each, total, over, times, once_below, accounts_at, accounts_of, idle_of}
use Rattle.c11_session.specs.Turns.{HasReason, IsInTurn}
use Rattle.c11_session.proofs.Lists.{total_le, total_le_sum, total_none, prefix_trans}

-- ---- what is kept

-- of an account
pub record AccountIs (terms : Terms) (history : List Entry) (stopped : Bool) (a : Account) : Type 0 where
  pub seen : IsPrefix a.seen history
  pub stops : a.stopped ≡ true → (stopped ≡ true) × (a.seen ≡ history)
  pub carried : a.terms ≡ Some terms
  pub some_number : 0 < length a.numbers
  pub made : (x : ℕ) → HasNumber a x → a.made ≡ own_steps history x
  pub waited : a.waited ≤ terms.bound
  pub few : a.drawn ≤ length a.made + a.waited + 1

-- of an idle one
abbrev pub IsSpare : Account → Type 0
IsSpare a = a.given_up ≡ false → a.drawn ≤ length a.made + a.waited

-- of a view with a ticket
pub record IsBusy (v : View) : Type 0 where
  pub goes_on : v.mine.given_up ≡ false
  pub reason : HasReason v.mine
  pub number : ℕ
  pub one : v.mine.numbers ≡ number ∷ []
  pub alone : v.gathered ≡ []

-- of a view
pub record ViewIs (terms : Terms) (history : List Entry) (stopped : Bool) (v : View) : Type 0 where
  pub accounts : AllByRecursion (AccountIs terms history stopped) (accounts_of v)
  pub idle : AllByRecursion IsSpare (idle_of v)
  pub busy : (t : ℕ) → HasTicket v t → IsBusy v
  pub turn : IsInTurn v → (v.mine.seen ≡ history) × (v.mine.stopped ≡ stopped)

-- ---- views that are not spent

abbrev pub IsActive : View → Type 0
IsActive v = accounts_of v ≡ v.mine ∷ v.gathered

pub idle_active : (v : View) → v.stage ≡ Idle → IsActive v
idle_active v is = ap (λ s. accounts_at s v.mine v.gathered) is

pub waiting_active : (v : View) (t : ℕ) → v.stage ≡ Waiting t → IsActive v
waiting_active v t is = ap (λ s. accounts_at s v.mine v.gathered) is

pub turn_active : (v : View) (t : ℕ) → v.stage ≡ InTurn t → IsActive v
turn_active v t is = ap (λ s. accounts_at s v.mine v.gathered) is

pub over_active : (f : Account → ℕ) (v : View) → IsActive v → over f v ≡ f v.mine + total f v.gathered
over_active f v active = ap (λ (accounts : List Account). total f accounts) active

-- a beginning has no more steps
pub steps_prefix : (xs ys : List Entry) → IsPrefix xs ys → step_count xs ≤ step_count ys
steps_prefix xs ys p =
    let whole : step_count ys ≡ step_count (xs ++ p.0) = ap step_count (sym p.1) in
    let parts : step_count (xs ++ p.0) ≡ step_count xs + step_count p.0 =
    ap length (filter-append (λ (g : Entry). not (is_init g.op)) xs p.0) ∙ length-append (filter (λ (g : Entry). not (is_init g.op)) xs) (filter (λ (g : Entry). not (is_init g.op)) p.0) in
    omega (arith, whole, parts)

-- ---- accounts of others, with one entry more

-- the history became `after`, which has the same steps of each thread but `number`, and nothing more once the session is stopped
pub record Grows (history after : List Entry) (stopped kept : Bool) (number : ℕ) : Type 0 where
  pub longer : IsPrefix history after
  pub elsewhere : (x : ℕ) → x ≢ number → own_steps after x ≡ own_steps history x
  pub stays : stopped ≡ true → (kept ≡ true) × (after ≡ history)

account_grows : (terms : Terms) (history after : List Entry) (stopped kept : Bool) (u : ℕ) (a : Account) → Grows history after stopped kept u → times u a.numbers ≤ 0
    → AccountIs terms history stopped a → AccountIs terms after kept a
account_grows terms history after stopped kept u a grows absent h = record {
  seen = prefix_trans a.seen history after h.seen grows.longer;
  stops = λ s. let x = h.stops s in let y = grows.stays x.0 in (y.0, x.1 ∙ sym y.1);
  carried = h.carried;
  some_number = h.some_number;
  made = λ x has. h.made x has ∙ sym (grows.elsewhere x (λ same. let e : times x a.numbers ≡ times u a.numbers = ap (λ (k : ℕ). times k a.numbers) same in omega (arith, e)));
  waited = h.waited;
  few = h.few;
}

accounts_grow : (terms : Terms) (history after : List Entry) (stopped kept : Bool) (u : ℕ) (accounts : List Account) → Grows history after stopped kept u → total (λ (a : Account). times u a.numbers) accounts ≤ 0
    → AllByRecursion (AccountIs terms history stopped) accounts → AllByRecursion (AccountIs terms after kept) accounts
accounts_grow terms history after stopped kept u [] grows absent h = tt
accounts_grow terms history after stopped kept u (a ∷ accounts) grows absent h =
    (account_grows terms history after stopped kept u a grows (omega arith) h.0, accounts_grow terms history after stopped kept u accounts grows (omega arith) h.1)

pub view_grows : (terms : Terms) (history after : List Entry) (stopped kept : Bool) (u : ℕ) (v : View) → Grows history after stopped kept u → over (λ (a : Account). times u a.numbers) v ≤ 0 → (IsInTurn v → ⊥)
    → ViewIs terms history stopped v → ViewIs terms after kept v
view_grows terms history after stopped kept u v grows absent not_turn h = record {
  accounts = accounts_grow terms history after stopped kept u (accounts_of v) grows absent h.accounts;
  idle = h.idle;
  busy = h.busy;
  turn = λ is. absurd (not_turn is);
}

-- ---- few tickets are drawn

-- the steps of these threads, added up
abbrev pub steps_of : List Entry → List ℕ → ℕ
steps_of history [] = 0
steps_of history (n ∷ ns) = length (own_steps history n) + steps_of history ns

steps_first : (e : Entry) (history : List Entry) (ns : List ℕ) → steps_of (e ∷ history) ns ≤ times e.thread ns + steps_of history ns
steps_first e history [] = omega arith
steps_first e history (n ∷ ns) = let rest = steps_first e history ns in let here = le (nat_eq e.thread n) (is_init e.op) in omega (arith, rest, here) where
  le : (b c : Bool) → length (cond (b && not c) (e ∷ own_steps history n) (own_steps history n)) ≤ (if b then 1 else 0) + length (own_steps history n)
  le true true = omega arith
  le true false = omega arith
  le false c = omega arith

steps_none : (ns : List ℕ) → steps_of [] ns ≤ 0
steps_none [] = omega arith
steps_none (n ∷ ns) = omega (arith, steps_none ns)

-- where each number stands once, the views made no more entries than there are
steps_le : (history : List Entry) (views : List View) → ((x : ℕ) → total (over (λ (a : Account). times x a.numbers)) views ≤ 1)
    → total (over (λ (a : Account). steps_of history a.numbers)) views ≤ length history
steps_le [] views once = total_none (over (λ (a : Account). steps_of [] a.numbers)) views (λ v. total_none (λ (a : Account). steps_of [] a.numbers) (accounts_of v) (λ a. steps_none a.numbers))
steps_le (e ∷ history) views once =
    let rest = steps_le history views once in
    let here = once e.thread in
    let step = total_le_sum (over (λ (a : Account). steps_of (e ∷ history) a.numbers)) (over (λ (a : Account). times e.thread a.numbers)) (over (λ (a : Account). steps_of history a.numbers)) views
    (λ v. total_le_sum (λ (a : Account). steps_of (e ∷ history) a.numbers) (λ a. times e.thread a.numbers) (λ a. steps_of history a.numbers) (accounts_of v) (λ a. steps_first e history a.numbers)) in
    omega (arith, rest, here, step)

made_le : (history made : List Entry) (ns : List ℕ) → 0 < length ns → ((x : ℕ) → 0 < times x ns → made ≡ own_steps history x) → length made ≤ steps_of history ns
made_le history made [] some_number h = absurd (omega arith)
made_le history made (n ∷ ns) some_number h =
    let yes : 0 < times n (n ∷ ns) = grind (arith, nat_tests) in
    let same : length made ≡ length (own_steps history n) = ap length (h n yes) in omega (arith, same)

drawn_le : (terms : Terms) (history : List Entry) (stopped : Bool) (accounts : List Account) → terms.bound ≤ 10000 → AllByRecursion (AccountIs terms history stopped) accounts
    → total (λ (a : Account). a.drawn) accounts ≤ total (λ (a : Account). steps_of history a.numbers) accounts + 10001 * total (λ (a : Account). length a.numbers) accounts
drawn_le terms history stopped [] small h = omega arith
drawn_le terms history stopped (a ∷ accounts) small h =
    let rest = drawn_le terms history stopped accounts small h.1 in
    let made = made_le history a.made a.numbers h.0.some_number h.0.made in
    let x = h.0.few in let y = h.0.waited in let z = h.0.some_number in
    omega (arith, rest, made, x, y, z, small)

below_one : (x n : ℕ) → once_below x n ≤ 1
below_one x n = grind (arith, nat_tests)

pub few_drawn : (terms : Terms) (history : List Entry) (stopped : Bool) (views : List View) → terms.bound ≤ 10000 → length history ≤ 14096 → Each (ViewIs terms history stopped) views
    → ((x : ℕ) → total (over (λ (a : Account). times x a.numbers)) views ≡ once_below x thread_limit) → total (over (λ (a : Account). length a.numbers)) views ≡ thread_limit
    → total (over (λ (a : Account). a.drawn)) views < 2097151
few_drawn terms history stopped views small fits each once all =
    let sums = total_le (over (λ (a : Account). a.drawn)) (over (λ (a : Account). steps_of history a.numbers)) (over (λ (a : Account). length a.numbers)) views
    (λ id v at. drawn_le terms history stopped (accounts_of v) small (each id v at).accounts) in
    let firsts = steps_le history views (λ x. let e = once x in let one = below_one x thread_limit in omega (arith, e, one)) in
    omega (arith, sums, firsts, small, fits, all)
