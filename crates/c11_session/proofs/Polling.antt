-- Loads of a seat that waits for its turn.
use Rattle.std.proofs.Common.{◌≡◌, ℕ, ◌+◌, ◌<◌, List, [], ◌∷◌, Some, None, refl, sym, ap, ◌∙◌, subst, arith, ⊎_elim}
use Rattle.std.specs.Prelude.{is_some}
use Rattle.std.proofs.lemmas.Option.{same_Some}
use Rattle.atomic_table.specs.Table.{Me}
use Rattle.c11_events.specs.Steps.{own_steps}
use Rattle.c11_memory.specs.Execution.{Execution}
use Rattle.c11_turn.specs.Hand.{FollowsTerms, IsMemoryOf}
use Rattle.c11_session.specs.declared.rule.Account.{Account}
use Rattle.c11_session.specs.declared.rule.Stage.TheVariants.{Waiting, InTurn}
use Rattle.c11_session.specs.declared.rule.View.{View}
use Rattle.c11_session.specs.Places.{Arrives, Begins, IsItsTurn, Looked, StillWaits}
use Rattle.c11_session.specs.Steps.{DrawsTicket, GoesOnWaiting, PollsForTurn, Sees, TurnComes}
use Rattle.c11_session.specs.Turns.{Held}
use Rattle.c11_session.specs.Views.{HasNumber, times}
use Rattle.c11_session.proofs.Lists.{prefix_self, prefix_trans}

pub looked_self : (a : Account) → Looked a a
looked_self a = record { same = refl; more = omega arith; later = prefix_self a.seen; stays = λ e. (e, refl) }

looked_once : (old new : Account) (served found : ℕ) → Sees old new served found → Looked old new
looked_once old new served found s =
    let loads : new.loads ≡ old.loads + 1 = ap (λ (a : Account). a.loads) s.same in
    record {
      same = s.same ∙ (λ i. record old { seen = new.seen; stopped = new.stopped; loads = sym loads i });
      more = omega (arith, loads);
      later = s.later;
      stays = s.stays;
    }

loads_once : (old new : Account) (served found : ℕ) → Sees old new served found → old.loads < new.loads
loads_once old new served found s = let loads : new.loads ≡ old.loads + 1 = ap (λ (a : Account). a.loads) s.same in omega (arith, loads)

looked_more : (a b c : Account) → Looked a b → Looked b c → Looked a c
looked_more a b c p q = record {
  same = q.same ∙ (λ i. record (p.same i) { seen = c.seen; stopped = c.stopped; loads = c.loads });
  more = omega (arith, p.more, q.more);
  later = prefix_trans a.seen b.seen c.seen p.later q.later;
  stays = λ e. let x = p.stays e in let y = q.stays x.0 in (y.0, y.1 ∙ x.1);
}

-- ---- one load

module _ (old new : Me Held View) (ticket found : ℕ) (waiting : old.0.stage ≡ Waiting ticket) (p : PollsForTurn old found new) where
  pub comes : p.served ≡ ticket → Arrives ticket old new
  comes served = ⊎_elim
      (λ (x : TurnComes ticket old new p.served). record {
        memory = x.memory;
        turn = record {
          looked = looked_once old.0.mine new.0.mine p.served found p.sees;
          loads = loads_once old.0.mine new.0.mine p.served found p.sees;
          in_turn = ap (λ (m : Me Held View). m.0) x.in_turn;
          stands = x.stands;
          follows = p.sees.follows;
          kept = x.kept;
          made = p.sees.made;
        };
        in_hand = ap (λ (m : Me Held View). m.1) x.in_turn;
      })
      (λ (x : GoesOnWaiting ticket old new p.served). absurd (x.not_served served)) (p.comes ticket waiting)

  pub goes_on : (p.served ≡ ticket → ⊥) → StillWaits old new
  goes_on not_served = ⊎_elim
      (λ (x : TurnComes ticket old new p.served). absurd (not_served x.served_now))
      (λ (x : GoesOnWaiting ticket old new p.served). record { looked = looked_once old.0.mine new.0.mine p.served found p.sees; same = x.same }) (p.comes ticket waiting)

-- ---- loads one after the other

pub waits_more : (a b c : Me Held View) → StillWaits a b → StillWaits b c → StillWaits a c
waits_more a b c p q = record {
  looked = looked_more a.0.mine b.0.mine c.0.mine p.looked q.looked;
  same = q.same ∙ (λ i. (record ((p.same i).0) { mine = c.0.mine }, (p.same i).1));
}

pub arrives_after : (ticket : ℕ) (a b c : Me Held View) → StillWaits a b → Arrives ticket b c → Arrives ticket a c
arrives_after ticket a b c p q =
    let carried : b.0.mine.terms ≡ a.0.mine.terms = ap (λ (x : Account). x.terms) p.looked.same in
    let numbers : b.0.mine.numbers ≡ a.0.mine.numbers = ap (λ (x : Account). x.numbers) p.looked.same in
    let made : b.0.mine.made ≡ a.0.mine.made = ap (λ (x : Account). x.made) p.looked.same in
    record {
      memory = q.memory;
      turn = record {
        looked = looked_more a.0.mine b.0.mine c.0.mine p.looked q.turn.looked;
        loads = omega (arith, p.looked.more, q.turn.loads);
        in_turn = q.turn.in_turn ∙ (λ i. record ((p.same i).0) { stage = InTurn ticket; mine = c.0.mine });
        stands = λ terms is. q.turn.stands terms (carried ∙ is);
        follows = λ terms is. q.turn.follows terms (carried ∙ is);
        kept = q.turn.kept;
        made = λ x has. sym made ∙ q.turn.made x (subst (λ (ns : List ℕ). 0 < times x ns) (sym numbers) has);
      };
      in_hand = q.in_hand;
    }

-- ---- from the ticket to the turn

-- the seat with a ticket, before it waits
abbrev pub counted : Me Held View → Me Held View
counted m = (record m.0 { mine = record m.0.mine { drawn = m.0.mine.drawn + 1 } }, m.1)

pub turn_after : (ticket : ℕ) (old drawn new : Me Held View) (memory : Execution) → DrawsTicket old ticket drawn → IsItsTurn ticket drawn new memory → IsItsTurn ticket (counted old) new memory
turn_after ticket old drawn new memory d t =
    let mine : drawn.0.mine ≡ (counted old).0.mine = ap (λ (m : Me Held View). m.0.mine) d.waiting in
    record {
      looked = subst (λ (a : Account). Looked a new.0.mine) mine t.looked;
      loads = subst (λ (a : Account). a.loads < new.0.mine.loads) mine t.loads;
      in_turn = t.in_turn ∙ (λ i. record ((d.waiting i).0) { stage = InTurn ticket; mine = new.0.mine });
      stands = λ terms is. t.stands terms (ap (λ (a : Account). a.terms) mine ∙ is);
      follows = λ terms is. t.follows terms (ap (λ (a : Account). a.terms) mine ∙ is);
      kept = t.kept;
      made = subst (λ (a : Account). (x : ℕ) → HasNumber a x → a.made ≡ own_steps new.0.mine.seen x) mine t.made;
    }

-- the same view with something else in hand
pub same_turn : (ticket : ℕ) (old new other : Me Held View) (memory taken : Execution) → other.0 ≡ new.0 → memory ≡ taken → IsItsTurn ticket old new memory → IsItsTurn ticket old other taken
same_turn ticket old new other memory taken e is t = record {
  looked = subst (λ (v : View). Looked old.0.mine v.mine) (sym e) t.looked;
  loads = subst (λ (v : View). old.0.mine.loads < v.mine.loads) (sym e) t.loads;
  in_turn = e ∙ (t.in_turn ∙ (λ i. record old.0 { stage = InTurn ticket; mine = (sym e i).mine }));
  stands = λ terms carried. subst (λ (v : View). IsMemoryOf terms v.mine.seen taken) (sym e) (subst (λ (m : Execution). IsMemoryOf terms new.0.mine.seen m) is (t.stands terms carried));
  follows = λ terms carried. subst (λ (v : View). FollowsTerms terms v.mine.seen) (sym e) (t.follows terms carried);
  kept = subst (λ (v : View). is_some taken.verdict ≡ v.mine.stopped) (sym e) (subst (λ (m : Execution). is_some m.verdict ≡ new.0.mine.stopped) is t.kept);
  made = subst (λ (v : View). (x : ℕ) → HasNumber old.0.mine x → old.0.mine.made ≡ own_steps v.mine.seen x) (sym e) t.made;
}

slot_in : List (ℕ × Held) → Held
slot_in [] = None
slot_in (x ∷ xs) = x.1

of_hand : (a b : Execution) (held : List (ℕ × Held)) → held ≡ (0, Some a) ∷ [] → held ≡ (0, Some b) ∷ [] → a ≡ b
unfolding slot_in
of_hand a b held one other = same_Some a b (ap slot_in (sym one ∙ other))

pub begins : (ticket : ℕ) (old drawn arrived new : Me Held View) (memory : Execution) → DrawsTicket old ticket drawn → Arrives ticket drawn arrived → arrived.1 ≡ (0, Some memory) ∷ [] → new ≡ (arrived.0, (0, None) ∷ [])
    → Begins old new ticket memory
begins ticket old drawn arrived new memory d a before after =
    let same : a.memory ≡ memory = of_hand a.memory memory arrived.1 a.in_hand before in
    record {
      few = d.few;
      turn = turn_after ticket old drawn new memory d (same_turn ticket drawn arrived new a.memory memory (ap (λ (m : Me Held View). m.0) after) same a.turn);
      in_hand = ap (λ (m : Me Held View). m.1) after;
    }
