-- All seats in one hand.
use Rattle.std.proofs.Common.{◌≡◌, ℕ, ◌+◌, Bool, true, List, [], ◌∷◌, ◌++◌, length, Some, None, refl, sym, ap, ◌∙◌, subst, arith, append_assoc}
use Rattle.std.specs.Prelude.{Option as Kept, is_some, map, reverse}
use Rattle.std.specs.List.{AllByRecursion, Any}
use Rattle.std.proofs.lemmas.List.{length-map, length-reverse, reverse-append}
use Rattle.std.proofs.lemmas.List.Elements.{All-from_recursion}
use mathlib.Core.Option.{some}
use lib.ListN.{get_elem?}
use Rattle.atomic_table.specs.declared.shared.Seat.{Seat}
use Rattle.atomic_table.specs.Table.{Final, Seen}
use Rattle.atomic_table.specs.Seated.{TableId}
use Rattle.c11_events.specs.declared.entry.Entry.{Entry}
use Rattle.c11_events.specs.declared.verdict.Verdict.{Verdict}
use Rattle.c11_events.specs.Replies.{thread_limit}
use Rattle.c11_turn.specs.declared.terms.Terms.{Terms}
use Rattle.c11_memory.specs.Execution.{Execution}
use Rattle.c11_session.specs.declared.rule.Account.{Account}
use Rattle.c11_session.specs.declared.rule.View.{View}
use Rattle.c11_session.specs.Seats.{Sitting}
use Rattle.c11_session.specs.Sessions.{Gathers, IsIn, IsTaken}
use Rattle.c11_session.specs.Steps.{gathering}
use Rattle.c11_session.specs.Turns.{Held, TakeTurns}
use Rattle.c11_session.proofs.Lists.{every-append}
use Rattle.c11_session.proofs.Accounts.{AccountIs}
use Rattle.c11_session.proofs.Dealing.{closes}
use Rattle.c11_session.proofs.Looking.{its_number}

-- ---- the gathering

abbrev pub account_of : Sitting → Account
account_of s = s.account

-- what the loop has gathered: these seats are left, and those popped stand in the view, the last first
pub record Gathered (all left : List Sitting) (v : View) : Type 0 where
  pub popped : List Sitting
  pub split : all ≡ left ++ popped
  pub accounts : map account_of popped ≡ reverse (v.mine ∷ v.gathered)
  pub numbers : AllByRecursion (λ s. s.account.numbers ≡ s.machine.number ∷ []) popped

pub one_gathered : (all left rest : List Sitting) (x : Sitting) (v w both : View) → Gathered all left v → left ≡ rest ++ x ∷ [] → w.mine ≡ x.account → x.account.numbers ≡ x.machine.number ∷ [] → both ≡ gathering v w
    → Gathered all rest both
one_gathered all left rest x v w both h split mine one joined = record {
  popped = x ∷ h.popped;
  split = h.split ∙ (ap (λ (xs : List Sitting). xs ++ h.popped) split ∙ append_assoc rest (x ∷ []) h.popped);
  accounts = ap (λ (rows : List Account). x.account ∷ rows) h.accounts ∙ (sym (ap (λ (u : View). reverse (u.mine ∷ u.gathered)) joined ∙ (reverse-append (v.mine ∷ v.gathered) (w.mine ∷ []) ∙ ap (λ (a : Account). a ∷ reverse (v.mine ∷ v.gathered)) mine)));
  numbers = (one, h.numbers);
}

-- ---- the end

every_backwards : (P : Account → Type 0) (xs : List Account) → AllByRecursion P xs → AllByRecursion P (reverse xs)
every_backwards P [] h = tt
every_backwards P (x ∷ xs) h =
    subst (λ (ys : List Account). AllByRecursion P ys) (sym (reverse-append (x ∷ []) xs)) (every-append P (reverse xs) (x ∷ []) (every_backwards P xs h.1) (h.0, tt))

-- what holds of the accounts, of each seat
each_seat : (P : Account → Type 0) (seats : List Sitting) → AllByRecursion P (map account_of seats) → AllByRecursion (λ s. P s.account) seats
each_seat P [] h = tt
each_seat P (s ∷ seats) h = (h.0, each_seat P seats h.1)

-- an account that stands in the history, of a seat with one number
each_in : (terms : Terms) (history : List Entry) (stopped : Bool) (seats : List Sitting) → AllByRecursion (λ s. AccountIs terms history stopped s.account) seats
    → AllByRecursion (λ s. s.account.numbers ≡ s.machine.number ∷ []) seats → AllByRecursion (IsIn history) seats
each_in terms history stopped [] accounts numbers = tt
each_in terms history stopped (s ∷ seats) accounts numbers =
    (record { seen = accounts.0.seen; made = sym (accounts.0.made s.machine.number (its_number s.account s.machine.number numbers.0)) }, each_in terms history stopped seats accounts.1 numbers.1)

-- one of them has seen the session stopped
some_stopped : (terms : Terms) (history : List Entry) (stopped : Bool) (seats : List Sitting) → AllByRecursion (λ s. AccountIs terms history stopped s.account) seats
    → Any (λ s. s.account.stopped ≡ true) seats → stopped ≡ true
some_stopped terms history stopped seats accounts any =
    let found = All-from_recursion (λ (s : Sitting). AccountIs terms history stopped s.account) seats accounts any.0 any.1 any.2 in
    ((subst (λ (s : Sitting). AccountIs terms history stopped s.account) any.3 found).stops any.4).0

is_kept : (verdict : Kept Verdict) → is_some verdict ≡ true → (v : Verdict) × (verdict ≡ Some v)
is_kept None kept = absurd (cc)
is_kept (Some v) kept = (v, refl)

pub taken : (terms : Terms) (ws : List ℕ) (xs : List Held) (table : TableId) (chair : Seat Held View) (seats : List Sitting) → Final (Seen (TakeTurns terms) chair.id chair.me.0) ws xs
    → Gathers table seats chair → length seats ≡ thread_limit → Any (λ s. s.account.stopped ≡ true) seats
    → (memory : Execution) × (get_elem? xs 0 ≡ some (Some memory)) × IsTaken terms seats memory
taken terms ws xs table chair seats final h all_seats any =
    let v = chair.me.0 in
    let many : length v.gathered + 1 ≡ thread_limit =
    omega (arith, ap length h.accounts, length-map seats account_of, length-reverse (v.mine ∷ v.gathered), all_seats) in
    let x = closes terms final.0 chair.id v final.1.0 final.1.1 h.idle many in
    let memory = x.0 in
    let accounts : AllByRecursion (λ s. AccountIs terms memory.history x.2.stopped s.account) seats = each_seat (AccountIs terms memory.history x.2.stopped) seats
    (subst (λ (rows : List Account). AllByRecursion (AccountIs terms memory.history x.2.stopped) rows) (sym h.accounts) (every_backwards (AccountIs terms memory.history x.2.stopped) (v.mine ∷ v.gathered) x.2.accounts)) in
    let verdict = is_kept memory.verdict (x.2.kept ∙ some_stopped terms memory.history x.2.stopped seats accounts any) in (
      memory,
      final.4 0 (Some memory) x.1,
      record {
        stands = x.2.stands;
        follows = x.2.follows;
        verdict = verdict.0;
        kept = verdict.1;
        ends = x.2.stands.home.verdict verdict.0 verdict.1;
        each = All-from_recursion (IsIn memory.history) seats (each_in terms memory.history x.2.stopped seats accounts h.numbers);
      },
    )
