-- From a seat that may draw to the memory of its turn, back in the slot.
use Rattle.std.proofs.Common.{◌≡◌, ℕ, ◌+◌, ◌≤◌, inl, inr, true, false, List, [], ◌∷◌, length, Some, refl, sym, ap, ◌∙◌, subst, arith, ⊎_elim}
use Rattle.std.specs.Prelude.{is_some}
use mathlib.Core.List.{IsPrefix}
use Rattle.atomic_table.specs.Table.{Me}
use Rattle.atomic_table.specs.declared.shared.Seat.{Seat}
use Rattle.c11_events.specs.declared.entry.Entry.{Entry}
use Rattle.c11_events.specs.declared.op.Ask.{Ask}
use Rattle.c11_events.specs.Steps.{own_steps, step_count}
use Rattle.c11_machine.specs.Stands.{Stands}
use Rattle.c11_memory.specs.Execution.{Execution}
use Rattle.c11_turn.specs.declared.terms.Terms.{Terms}
use Rattle.c11_turn.specs.declared.turns.Turned.{Turned}
use Rattle.c11_turn.specs.Asking.{IsOver}
use Rattle.c11_turn.specs.Hand.{FollowsTerms, HistoriesAreShort, IsDue, IsMemoryOf, IsTurn}
use Rattle.c11_session.specs.declared.place.Place.{Place}
use Rattle.c11_session.specs.declared.place.Rest.{Rest}
use Rattle.c11_session.specs.declared.place.Rest.TheVariants.{Ready}
use Rattle.c11_session.specs.declared.rule.Account.{Account}
use Rattle.c11_session.specs.declared.rule.View.{View}
use Rattle.c11_session.specs.Places.{Begins, HasPlayed, HoldsStill, IsItsTurn, IsSeated}
use Rattle.c11_session.specs.Seats.{asks_after, code_in, replies_of}
use Rattle.c11_session.specs.Steps.{MayDraw}
use Rattle.c11_session.specs.Turns.{Held, HasReason}
use Rattle.c11_session.specs.Views.{second_word}
use Rattle.c11_session.proofs.Accounts.{steps_prefix}
use Rattle.c11_session.proofs.Looking.{its_number}
use Rattle.c11_session.proofs.Polling.{counted, same_turn}

-- a seat that is ready may draw
pub may_draw : (p : Place) → IsSeated p → p.rest ≡ Ready → MayDraw p.chair.me.0
may_draw p h ready =
    let still = subst (λ (r : Rest). HoldsStill p.terms p.thread.number p.ask p.chair.me.0.mine r) ready h.holds in
    record { idle = h.idle; goes_on = still.0; reason = still.1; number = p.thread.number; one = h.part.one; alone = h.alone }

-- a reason to draw is one after more loads too
reason_later : (m n : Account) → IsPrefix m.seen n.seen → (m.stopped ≡ true → n.stopped ≡ true) → n.waited ≡ m.waited → HasReason m → HasReason n
reason_later m n later stays waited =
    ⊎_elim (λ (x : m.waited ≤ step_count m.seen). inl (let le = steps_prefix m.seen n.seen later in omega (arith, x, le, waited))) (λ (x : m.stopped ≡ true). inr (stays x))

-- a turn of its thread is due on the memory that it finds
pub is_due : (p : Place) (ask : Ask) (number ticket : ℕ) (begun : Me Held View) (memory : Execution) → IsSeated p → p.ask ≡ Some ask → number ≡ p.thread.number
    → Begins p.chair.me begun ticket memory → IsDue p.terms memory number ask
is_due p ask number ticket begun memory h is is_number b =
    let its = p.thread.number in
    let stands = b.turn.stands p.terms h.part.carried in
    let entries : begun.0.mine.seen ≡ memory.history = sym stands.home.entries in
    let made : p.chair.me.0.mine.made ≡ own_steps memory.history its =
    b.turn.made its (its_number p.chair.me.0.mine its h.part.one) ∙ ap (λ (es : List Entry). own_steps es its) entries in
    subst (λ (x : ℕ). IsDue p.terms memory x ask) (sym is_number)
    record {
      has = subst (λ (es : List Entry). IsMemoryOf p.terms es memory) entries stands;
      follows = subst (λ (es : List Entry). FollowsTerms p.terms es) entries (b.turn.follows p.terms h.part.carried);
      below = h.part.below;
      asked = subst (λ (es : List Entry). asks_after p.terms es ≡ Some ask) made (h.asked ask is).0;
    }

-- the memory of a turn is small
pub stays_short : HistoriesAreShort → (terms : Terms) (memory : Execution) → IsMemoryOf terms memory.history memory → FollowsTerms terms memory.history
    → (step_count memory.history ≤ terms.bound) × (length memory.history ≤ 14096)
stays_short law terms memory has follows =
    let both = law terms memory.history follows in
    let few = has.ready.few_steps in
    (both.0, omega (arith, both.0, both.1, few))

module _ (p : Place) (ticket : ℕ) (begun : Me Held View) (found memory : Execution) (chair : Seat Held View)
    (h : IsSeated p) (ready : p.rest ≡ Ready) (b : Begins p.chair.me begun ticket found) (put : chair.me ≡ (begun.0, (0, Some memory) ∷ [])) where
  abbrev m : Account
  m = p.chair.me.0.mine

  abbrev n : Account
  n = chair.me.0.mine

  its_turn : IsItsTurn ticket (counted p.chair.me) chair.me found
  its_turn = same_turn ticket (counted p.chair.me) begun chair.me found found (ap (λ (x : Me Held View). x.0) put) refl b.turn

  pub has_played : HistoriesAreShort → p.over ≡ false → (ask : Ask) → p.ask ≡ Some ask → (number : ℕ) → number ≡ p.thread.number → (turned : Turned) → IsTurn p.terms found memory number ask turned
      → (word : ℕ) → word ≡ second_word (ticket + 1) (length memory.history) (is_some memory.verdict) → HasPlayed record p { chair = chair } turned word
  has_played law going ask is number is_number turned turn word is_word =
      let t = its_turn in
      let its = p.thread.number in
      let same = t.looked.same in
      let made : n.made ≡ m.made = ap (λ (a : Account). a.made) same in
      let may = may_draw p h ready in
      let asked = h.asked ask is in
      let small = stays_short law p.terms memory turn.has turn.follows in
      record {
        ticket = ticket;
        in_turn = ap (λ (v : View). v.stage) t.in_turn;
        alone = ap (λ (v : View). v.gathered) t.in_turn ∙ h.alone;
        part = record {
          one = ap (λ (a : Account). a.numbers) same ∙ h.part.one;
          below = h.part.below;
          carried = ap (λ (a : Account). a.terms) same ∙ h.part.carried;
          follows = t.follows p.terms h.part.carried;
          own = sym (t.made its (its_number m its h.part.one)) ∙ sym made;
          stands = subst (λ (es : List Entry). Stands (code_in p.terms) p.thread (replies_of es)) (sym made) h.part.stands;
        };
        goes_on = ap (λ (a : Account). a.given_up) same ∙ may.goes_on;
        reason = reason_later m n t.looked.later (λ e. (t.looked.stays e).0) (ap (λ (a : Account). a.waited) same) may.reason;
        not_over = λ over. let is_over : p.over ≡ true = h.over.1 (subst (λ (es : List Entry). IsOver es) made over) in let both : false ≡ true = sym going ∙ is_over in cc;
        is_ready = ready;
        going = going;
        ask = ask;
        in_mind = is;
        asked = subst (λ (es : List Entry). asks_after p.terms es ≡ Some ask) (sym made) asked.0;
        taken = asked.1;
        found = found;
        entries = (t.stands p.terms h.part.carried).home.entries;
        kept = t.kept;
        memory = memory;
        in_hand = ap (λ (x : Me Held View). x.1) put;
        turn = subst (λ (x : ℕ). IsTurn p.terms found memory x ask turned) is_number turn;
        short = small.0;
        fits = small.1;
        is_word = is_word;
      }
