-- What a load leaves of a seat.
use Rattle.std.proofs.Common.{◌≡◌, ℕ, ◌+◌, ◌<◌, ◌≤◌, inl, inr, Bool, true, false, List, [], ◌∷◌, length, Some, refl, sym, ap, ◌∙◌, subst, arith, ⊎_elim, nat_eq}
use Rattle.std.specs.Prelude.{Option, ◌↔◌, IsTrue, is_some, if◌then◌else◌}
use Rattle.std.proofs.lemmas.Bool.Decides.{nat_tests}
use mathlib.Core.List.{IsPrefix}
use Rattle.atomic_table.specs.declared.shared.Seat.{Seat}
use Rattle.c11_events.specs.declared.entry.Entry.{Entry}
use Rattle.c11_events.specs.declared.op.Ask.{Ask}
use Rattle.c11_events.specs.declared.reply.Holder.{Holder}
use Rattle.c11_events.specs.EventOf.{events_of}
use Rattle.c11_events.specs.Offered.{Offered}
use Rattle.c11_events.specs.Steps.{step_count}
use Rattle.c11_events.specs.Threads.{blocked_by}
use Rattle.c11_events.specs.Verdicts.{VerdictOf}
use Rattle.c11_machine.specs.Stands.{Stands}
use Rattle.c11_meaning.specs.Legal.{AsksAreLegal}
use Rattle.c11_turn.specs.declared.terms.Terms.{Terms}
use Rattle.c11_turn.specs.Asking.{IsOver}
use Rattle.c11_turn.specs.Hand.{FollowsTerms, next_in}
use Rattle.c11_turn.proofs.Histories.{legal_length}
use Rattle.c11_session.specs.declared.front.Front.{Front}
use Rattle.c11_session.specs.declared.place.Place.{Place}
use Rattle.c11_session.specs.declared.place.Rest.{Rest}
use Rattle.c11_session.specs.declared.place.Rest.TheVariants.{Ready, Waits, Stopped, NoMemory}
use Rattle.c11_session.specs.declared.rule.Account.{Account}
use Rattle.c11_session.specs.declared.rule.View.{View}
use Rattle.c11_session.specs.Places.{IsBlocked, HoldsStill, IsSeated, is_short, sitting_of, still}
use Rattle.c11_session.specs.Seats.{Looks, asks_after, code_in, replies_of}
use Rattle.c11_session.specs.Steps.{LooksAtFront}
use Rattle.c11_session.specs.Turns.{Held, HasReason}
use Rattle.c11_session.specs.Views.{HasNumber, times}
use Rattle.c11_session.proofs.Lists.{prefix_length, prefix_whole}
use Rattle.c11_session.proofs.Accounts.{steps_prefix}
use Rattle.c11_session.proofs.Turning.{has_one}

-- the seat's own number
pub its_number : (a : Account) (number : ℕ) → a.numbers ≡ number ∷ [] → HasNumber a number
its_number a number one = subst (λ (ns : List ℕ). 0 < times number ns) (sym one) (has_one number)

-- a longer history has more steps
longer_steps : (law : AsksAreLegal) (terms : Terms) (xs ys : List Entry) → FollowsTerms terms xs → FollowsTerms terms ys → length xs < length ys → step_count xs < step_count ys
longer_steps law terms xs ys f g more =
    let checked = terms.program.value in
    omega (arith, legal_length law checked Offered terms.bound xs f.legal, legal_length law checked Offered terms.bound ys g.legal, more)

module _ (law : AsksAreLegal) (terms : Terms) (number : ℕ) (asked : Option Ask) (m n : Account) (later : IsPrefix m.seen n.seen) (stays : m.stopped ≡ true → (n.stopped ≡ true) × (n.seen ≡ m.seen))
    (waited : n.waited ≡ m.waited) (given_up : n.given_up ≡ m.given_up) (old : FollowsTerms terms m.seen) (new : FollowsTerms terms n.seen) where
  reason_stays : HasReason m → HasReason n
  reason_stays = ⊎_elim (λ (x : m.waited ≤ step_count m.seen). inl (let le = steps_prefix m.seen n.seen later in omega (arith, x, le, waited))) (λ (x : m.stopped ≡ true). inr ((stays x).0))

  waits_on : (holder : Holder) (count : ℕ) → IsBlocked number asked m holder count → (stopped same : Bool) → n.stopped ≡ stopped → nat_eq count (length n.seen) ≡ same
      → HoldsStill terms number asked n (if stopped then Ready else (if same then Waits holder count else Ready))
  waits_on holder count h true same is tells = (given_up ∙ h.goes_on, inr is)
  waits_on holder count h false true is tells =
      let equal : count ≡ length n.seen = grind (arith, nat_tests) in
      let long = h.long in
      let whole : m.seen ≡ n.seen = prefix_whole m.seen n.seen later (omega (arith, equal, long)) in
      record {
        ask = h.ask;
        is = h.is;
        blocked = subst (λ (es : List Entry). blocked_by (events_of es) number h.ask.op ≡ Some holder) whole h.blocked;
        long = sym equal;
        going = is;
        goes_on = given_up ∙ h.goes_on;
        waited = waited ∙ (h.waited ∙ ap (λ (es : List Entry). step_count es + 1) whole);
      }
  waits_on holder count h false false is tells =
      let long = h.long in
      let le = prefix_length m.seen n.seen later in
      let more : length m.seen < length n.seen = grind (arith, nat_tests) in
      let steps = longer_steps law terms m.seen n.seen old new more in
      let w = h.waited in
      (given_up ∙ h.goes_on, inl (omega (arith, steps, w, waited)))

  pub holds_on : (r : Rest) (length_now : ℕ) (stopped : Bool) → length_now ≡ length n.seen → stopped ≡ n.stopped → HoldsStill terms number asked m r → HoldsStill terms number asked n (still r length_now stopped)
  holds_on Ready length_now stopped is_long is_stopped h = (given_up ∙ h.0, reason_stays h.1)
  holds_on (Waits holder count) length_now stopped is_long is_stopped h =
      subst (λ (x : ℕ × Bool). HoldsStill terms number asked n (if x.1 then Ready else (if nat_eq count x.0 then Waits holder count else Ready))) (λ i. (sym is_long i, sym is_stopped i))
      (waits_on holder count h n.stopped (nat_eq count (length n.seen)) refl refl)
  holds_on (Stopped v) length_now stopped is_long is_stopped h =
      (given_up ∙ h.0, (stays h.1).0, subst (λ (es : List Entry). VerdictOf (next_in terms es) terms.bound es (Some v)) (sym (stays h.1).1) h.2)
  holds_on NoMemory length_now stopped is_long is_stopped h = given_up ∙ h

-- a load changes nothing of memory that ran out
short_still : (r : Rest) (n : ℕ) (stopped : Bool) → is_short (still r n stopped) ≡ is_short r
short_still Ready n stopped = refl
short_still (Waits holder count) n stopped = by stopped (nat_eq count n)
  where
    by : (a b : Bool) → is_short (if a then Ready else (if b then Waits holder count else Ready)) ≡ false
    by true b = refl
    by false true = refl
    by false false = refl
short_still (Stopped v) n stopped = refl
short_still NoMemory n stopped = refl

module _ (law : AsksAreLegal) (p : Place) (chair : Seat Held View) (word : ℕ) (front : Front) (h : IsSeated p) (l : LooksAtFront p.chair.me word chair.me) where
  abbrev m : Account
  m = p.chair.me.0.mine

  abbrev n : Account
  n = chair.me.0.mine

  pub still_seated : front.length ≡ length chair.me.0.mine.seen → front.stopped ≡ chair.me.0.mine.stopped → IsSeated record p { chair = chair; rest = still p.rest front.length front.stopped }
  still_seated is_long is_stopped =
      let sees = l.sees in
      let made : n.made ≡ m.made = ap (λ (a : Account). a.made) sees.same in
      let number = p.thread.number in
      let follows = sees.follows p.terms h.part.carried in
      record {
        empty = ap (λ (x : View × List (ℕ × Held)). x.1) l.same ∙ h.empty;
        idle = ap (λ (x : View × List (ℕ × Held)). x.0.stage) l.same ∙ h.idle;
        alone = ap (λ (x : View × List (ℕ × Held)). x.0.gathered) l.same ∙ h.alone;
        part = record {
          one = ap (λ (a : Account). a.numbers) sees.same ∙ h.part.one;
          below = h.part.below;
          carried = ap (λ (a : Account). a.terms) sees.same ∙ h.part.carried;
          follows = follows;
          own = sym (sees.made number (its_number m number h.part.one)) ∙ sym made;
          stands = subst (λ (es : List Entry). Stands (code_in p.terms) p.thread (replies_of es)) (sym made) h.part.stands;
        };
        asked = λ ask is. let x = h.asked ask is in (subst (λ (es : List Entry). asks_after p.terms es ≡ Some ask) (sym made) x.0, x.1);
        over = subst (λ (es : List Entry). IsTrue p.over ↔ IsOver es) (sym made) h.over;
        holds = holds_on law p.terms number p.ask m n sees.later sees.stays (ap (λ (a : Account). a.waited) sees.same) (ap (λ (a : Account). a.given_up) sees.same)
            h.part.follows follows p.rest front.length front.stopped is_long is_stopped h.holds;
      }

  pub has_looked : front.length ≡ length chair.me.0.mine.seen → front.stopped ≡ chair.me.0.mine.stopped → chair.table_id ≡ p.chair.table_id
      → Looks (sitting_of p) (sitting_of record p { chair = chair; rest = still p.rest front.length front.stopped }) front
  has_looked is_long is_stopped table = record {
    same = λ i. record {
      table = table i;
      terms = p.terms;
      account = l.sees.same i;
      machine = p.thread;
      has_ask = is_some p.ask;
      short = short_still p.rest front.length front.stopped i;
    };
    later = l.sees.later;
    stays = l.sees.stays;
    long = is_long;
    stops = is_stopped;
  }
