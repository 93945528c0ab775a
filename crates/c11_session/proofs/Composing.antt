-- What a seat is told after its loads and its turn.
use Rattle.std.proofs.Common.{◌≡◌, ℕ, ◌+◌, ◌<◌, ◌≤◌, inl, inr, Bool, true, false, List, [], ◌∷◌, ◌++◌, length, Some, refl, sym, ap, ◌∙◌, subst, arith, ⊎_elim}
use mathlib.Core.List.{IsPrefix}
use Rattle.c11_events.specs.declared.entry.Entry.{Entry}
use Rattle.c11_events.specs.EventOf.{events_of}
use Rattle.c11_events.specs.Steps.{step_count}
use Rattle.c11_events.specs.Threads.{blocked_by}
use Rattle.c11_events.specs.Verdicts.{StepVerdict, VerdictOf}
use Rattle.c11_turn.specs.declared.terms.Terms.{Terms}
use Rattle.c11_turn.specs.Hand.{next_in}
use Rattle.c11_turn.specs.Asking.{IsOver}
use Rattle.c11_session.specs.declared.answer.Turn.{Turn}
use Rattle.c11_session.specs.declared.answer.Turn.TheVariants as turn
use Rattle.c11_session.specs.declared.front.Front.{Front}
use Rattle.c11_session.specs.declared.place.Place.{Place}
use Rattle.c11_session.specs.declared.place.Rest.{Rest}
use Rattle.c11_session.specs.declared.place.Rest.TheVariants as rest
use Rattle.c11_session.specs.declared.rule.Account.{Account}
use Rattle.c11_session.specs.Places.{CameToTurn, HoldsStill, IsSeated, SameCounts, sitting_of}
use Rattle.c11_session.specs.Seats.{Again, Answers, Counts, Keeps, Looks, Sitting, Tells, asks_after, says_short}
use Rattle.c11_session.proofs.Lists.{prefix_length, prefix_trans, prefix_whole}

-- nothing changed but what loads and tickets change
pub record Nearer (old new : Sitting) : Type 0 where
  pub same : new ≡ record old { account = record old.account { seen = new.account.seen; stopped = new.account.stopped; loads = new.account.loads; drawn = new.account.drawn } }
  pub later : IsPrefix old.account.seen new.account.seen
  pub stays : old.account.stopped ≡ true → (new.account.stopped ≡ true) × (new.account.seen ≡ old.account.seen)

pub by_look : (old new : Sitting) (front : Front) → Looks old new front → Nearer old new
by_look old new front l =
    let loads : new.account.loads ≡ old.account.loads + 1 = ap (λ (s : Sitting). s.account.loads) l.same in
    let drawn : new.account.drawn ≡ old.account.drawn = ap (λ (s : Sitting). s.account.drawn) l.same in
    record {
      same = l.same ∙ (λ i. record old { account = record old.account { seen = new.account.seen; stopped = new.account.stopped; loads = sym loads i; drawn = sym drawn i } });
      later = l.later;
      stays = l.stays;
    }

pub by_turn : (old new : Place) → CameToTurn old new → Nearer (sitting_of old) (sitting_of new)
by_turn old new c =
    let a = old.chair.me.0.mine in
    let b = new.chair.me.0.mine in
    let drawn : b.drawn ≡ a.drawn + 1 = ap (λ (x : Account). x.drawn) c.looked.same in
    let account : b ≡ record a { seen = b.seen; stopped = b.stopped; loads = b.loads; drawn = b.drawn } =
    c.looked.same ∙ (λ i. record a { seen = b.seen; stopped = b.stopped; loads = b.loads; drawn = sym drawn i }) in
    record {
      same = ap sitting_of c.same ∙ (λ i. record (sitting_of old) { table = c.table i; account = account i });
      later = c.looked.later;
      stays = c.looked.stays;
    }

was_going : (old new : Sitting) → Nearer old new → new.account.stopped ≡ false → old.account.stopped ≡ false
was_going old new n goes = by old.account.stopped refl
  where
    by : (b : Bool) → old.account.stopped ≡ b → old.account.stopped ≡ false
    by false is = is
    by true is = let both : true ≡ false = sym (n.stays is).0 ∙ goes in cc

module _ (old mid new : Sitting) (n : Nearer old mid) where
  made : mid.account.made ≡ old.account.made
  made = ap (λ (s : Sitting). s.account.made) n.same

  terms : mid.terms ≡ old.terms
  terms = ap (λ (s : Sitting). s.terms) n.same

  number : mid.machine.number ≡ old.machine.number
  number = ap (λ (s : Sitting). s.machine.number) n.same

  same_short : mid.short ≡ old.short
  same_short = ap (λ (s : Sitting). s.short) n.same

  has_ask : mid.has_ask ≡ old.has_ask
  has_ask = ap (λ (s : Sitting). s.has_ask) n.same

  pub tells_after : (answer : Turn) → Tells mid new answer → Tells old new answer
  tells_after turn.Ended t = t
  tells_after (turn.Went reply) t = record {
    entry = t.entry;
    made = t.made ∙ ap (λ (es : List Entry). es ++ t.entry ∷ []) made;
    before = t.before;
    last = t.last;
    ask = t.ask;
    asked = subst (λ (q : Terms × List Entry). asks_after q.0 q.1 ≡ Some t.ask) (λ i. (terms i, made i)) t.asked;
    line = t.line;
    op = t.op;
    told = t.told;
    of_thread = t.of_thread ∙ number;
    step = t.step;
    was = was_going old mid n t.was;
    verdict = t.verdict;
    stands = subst (λ (x : Terms). StepVerdict x.bound new.account.seen t.verdict) terms t.stands;
    stops = t.stops;
    used = t.used;
  }
  tells_after (turn.Waits holder count) t = record {
    made = t.made ∙ made;
    long = t.long;
    ask = t.ask;
    asked = subst (λ (q : Terms × List Entry). asks_after q.0 q.1 ≡ Some t.ask) (λ i. (terms i, made i)) t.asked;
    blocked = subst (λ (u : ℕ). blocked_by (events_of new.account.seen) u t.ask.op ≡ Some holder) number t.blocked;
    was = was_going old mid n t.was;
    goes_on = t.goes_on;
    kept = t.kept ∙ has_ask;
    may_go_on = t.may_go_on;
    waited = t.waited;
  }
  tells_after (turn.Stopped v) t = record {
    made = t.made ∙ made;
    verdict = subst (λ (x : Terms). VerdictOf (next_in x new.account.seen) x.bound new.account.seen (Some v)) terms t.verdict;
    stopped = t.stopped;
    for_good = t.for_good;
    kept = t.kept ∙ has_ask;
  }
  tells_after turn.NoMemory t = record {
    made = t.made ∙ made;
    was = ⊎_elim (λ (x : mid.short ≡ true). inl (sym same_short ∙ x)) (λ (x : mid.account.stopped ≡ false). inr (was_going old mid n x)) t.was;
    for_good = t.for_good;
    kept = t.kept ∙ has_ask;
  }

  pub keeps_after : Keeps mid new → Keeps old new
  keeps_after k = record {
    table = k.table ∙ ap (λ (s : Sitting). s.table) n.same;
    terms = k.terms ∙ terms;
    number = k.number ∙ number;
    later = prefix_trans old.account.seen mid.account.seen new.account.seen n.later k.later;
    stays = λ is. let x = n.stays is in let y = k.stays x.0 in (y.0, y.1 ∙ x.1);
  }

-- ---- between calls

pub not_over_yet : (p : Place) → IsSeated p → p.over ≡ false → IsOver p.chair.me.0.mine.made → ⊥
not_over_yet p h going over = let yes = h.over.1 over in let both : true ≡ false = sym yes ∙ going in cc

pub holds_at : (p : Place) → IsSeated p → (r : Rest) → p.rest ≡ r → HoldsStill p.terms p.thread.number p.ask p.chair.me.0.mine r
holds_at p h r is = subst (λ (x : Rest). HoldsStill p.terms p.thread.number p.ask p.chair.me.0.mine x) is h.holds

-- ---- a turn

-- one ticket and a load or more count for each answer
counts_of : (old new : Account) → new.drawn ≡ old.drawn + 1 → old.loads < new.loads → (answer : Turn) → Counts old new answer
counts_of old new drawn loads turn.Ended = tt
counts_of old new drawn loads (turn.Went reply) = drawn
counts_of old new drawn loads (turn.Waits holder count) = loads
counts_of old new drawn loads (turn.Stopped v) = tt
counts_of old new drawn loads turn.NoMemory = tt

-- what is told, in one
answers_of : (old new : Sitting) (answer : Turn) → (IsOver old.account.made → ⊥) → Tells old new answer → Counts old.account new.account answer → new.short ≡ says_short answer → Answers old new answer
answers_of old new turn.Ended going t counts short = absurd t
answers_of old new (turn.Went reply) going t counts short = (going, t, counts, short)
answers_of old new (turn.Waits holder count) going t counts short = (going, t, counts, short)
answers_of old new (turn.Stopped v) going t counts short = (going, t, counts, short)
answers_of old new turn.NoMemory going t counts short = (going, t, counts, short)

-- a seat took its turn, and ended it
module _ (p mid q : Place) (answer : Turn) (h : IsSeated p) (going : IsOver p.chair.me.0.mine.made → ⊥) (is_ready : p.rest ≡ rest.Ready) (came : CameToTurn p mid) (k : Keeps (sitting_of mid) (sitting_of q)) where
  abbrev a : Account
  a = p.chair.me.0.mine

  pub keeps_played : Keeps (sitting_of p) (sitting_of q)
  keeps_played = keeps_after (sitting_of p) (sitting_of mid) (sitting_of q) (by_turn p mid came) k

  pub answers_played : Tells (sitting_of mid) (sitting_of q) answer → SameCounts mid.chair.me.0.mine q.chair.me.0.mine → (sitting_of q).short ≡ says_short answer → Answers (sitting_of p) (sitting_of q) answer
  answers_played tells same short =
      let drawn : mid.chair.me.0.mine.drawn ≡ a.drawn + 1 = ap (λ (x : Account). x.drawn) came.looked.same in
      let loads = came.loads in
      let kept = same.loads in
      answers_of (sitting_of p) (sitting_of q) answer going (tells_after (sitting_of p) (sitting_of mid) (sitting_of q) (by_turn p mid came) answer tells)
      (counts_of a q.chair.me.0.mine (same.drawn ∙ drawn) (omega (arith, loads, kept)) answer) short

  pub again_played : Again (sitting_of p) (sitting_of q)
  again_played =
      let holds : HoldsStill p.terms p.thread.number p.ask a rest.Ready = subst (λ (r : Rest). HoldsStill p.terms p.thread.number p.ask a r) is_ready h.holds in
      record {
        for_good = λ up. let both : true ≡ false = sym up ∙ holds.0 in cc;
        waits = λ goes waited seen stopped.
            ⊎_elim (λ (x : a.waited ≤ step_count a.seen). absurd (omega (arith, x, waited))) (λ (x : a.stopped ≡ true). let both : true ≡ false = sym (keeps_played.stays x).0 ∙ stopped in cc) holds.1;
      }

-- ---- a load first

module _ (old mid new : Sitting) (front : Front) (l : Looks old mid front) (k : Keeps mid new) where
  -- nothing was added before the load where nothing was added since
  nothing_yet : new.account.seen ≡ old.account.seen → mid.account.seen ≡ old.account.seen
  nothing_yet same =
      let first = prefix_length old.account.seen mid.account.seen l.later in
      let second = prefix_length mid.account.seen new.account.seen k.later in
      let long = ap length same in
      sym (prefix_whole old.account.seen mid.account.seen l.later (omega (arith, first, second, long)))

  pub again_looked : old.account.given_up ≡ false → Again mid new → Again old new
  again_looked goes_on again =
      let account = λ (f : Account → ℕ). ap (λ (s : Sitting). f s.account) l.same in
      record {
        for_good = λ up. let both : true ≡ false = sym up ∙ goes_on in cc;
        waits = λ goes waited seen stopped.
            let whole = nothing_yet seen in
            let still =
            again.waits (ap (λ (s : Sitting). s.account.given_up) l.same ∙ goes) (account (λ (x : Account). x.waited) ∙ (waited ∙ ap (λ (es : List Entry). step_count es + 1) (sym whole)))
            (seen ∙ sym whole) stopped
            in (still.0 ∙ account (λ (x : Account). x.drawn), still.1);
      }

  not_over : (IsOver mid.account.made → ⊥) → IsOver old.account.made → ⊥
  not_over going over = going (subst IsOver (sym (ap (λ (s : Sitting). s.account.made) l.same)) over)

  told : (answer : Turn) → Tells mid new answer → Tells old new answer
  told answer = tells_after old mid new (by_look old mid front l) answer

  pub answers_looked : (answer : Turn) → Answers mid new answer → (IsOver mid.account.made → ⊥) → Answers old new answer
  answers_looked turn.Ended x going = absurd (going x.0)
  answers_looked (turn.Went reply) x going = answers_of old new (turn.Went reply) (not_over going) (told (turn.Went reply) x.1) (x.2 ∙ ap (λ (s : Sitting). s.account.drawn + 1) l.same) x.3
  answers_looked (turn.Waits holder count) x going =
      let loads : mid.account.loads ≡ old.account.loads + 1 = ap (λ (s : Sitting). s.account.loads) l.same in
      let more = x.2 in
      answers_of old new (turn.Waits holder count) (not_over going) (told (turn.Waits holder count) x.1) (omega (arith, loads, more)) x.3
  answers_looked (turn.Stopped v) x going = answers_of old new (turn.Stopped v) (not_over going) (told (turn.Stopped v) x.1) tt x.3
  answers_looked turn.NoMemory x going = answers_of old new turn.NoMemory (not_over going) (told turn.NoMemory x.1) tt x.3
