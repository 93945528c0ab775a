-- What the end of a turn leaves of a seat.
use Rattle.std.proofs.Common.{◌≡◌, ℕ, ◌+◌, ◌<◌, ◌≤◌, inl, inr, Bool, true, false, List, [], ◌∷◌, ◌++◌, length, Option, Some, None, refl, sym, ap, ◌∙◌, subst, arith, ⊎_elim}
use Rattle.std.specs.Prelude.{◌↔◌, IsTrue, is_some}
use Rattle.std.proofs.lemmas.List.{map-append}
use mathlib.Core.List.{IsPrefix}
use Rattle.atomic_table.specs.declared.shared.Seat.{Seat}
use Rattle.atomic_table.specs.Table.{Me}
use Rattle.c11_events.specs.declared.entry.Entry.{Entry}
use Rattle.c11_events.specs.declared.op.Ask.{Ask}
use Rattle.c11_events.specs.declared.op.Op.{Op}
use Rattle.c11_events.specs.declared.reply.Holder.{Holder}
use Rattle.c11_events.specs.declared.reply.Reply.{Reply}
use Rattle.c11_events.specs.declared.verdict.Verdict.{Verdict}
use Rattle.c11_events.specs.EventOf.{events_of}
use Rattle.c11_events.specs.Replies.{thread_limit}
use Rattle.c11_events.specs.Steps.{own_steps, step_count}
use Rattle.c11_events.specs.Threads.{blocked_by}
use Rattle.c11_events.specs.Verdicts.{StepVerdict, VerdictOf}
use Rattle.c11_machine.specs.Stands.{Standing, Stands}
use Rattle.c11_meaning.specs.Progress.{Ends}
use Rattle.c11_memory.specs.Execution.{Execution}
use Rattle.c11_turn.specs.declared.turns.Turned.{Turned}
use Rattle.c11_turn.specs.declared.turns.Turned.TheVariants as deed
use Rattle.c11_turn.specs.Asking.{IsOver}
use Rattle.c11_turn.specs.Hand.{FollowsTerms, next_in}
use Rattle.c11_turn.proofs.Asking.{over_by, over_last, own_gained}
use Rattle.c11_session.specs.declared.answer.Turn.TheVariants as answer
use Rattle.c11_session.specs.declared.place.Place.{Place}
use Rattle.c11_session.specs.declared.place.Rest.{Rest}
use Rattle.c11_session.specs.declared.place.Rest.TheVariants as rest
use Rattle.c11_session.specs.declared.rule.Account.{Account}
use Rattle.c11_session.specs.declared.rule.Stage.TheVariants.{Idle}
use Rattle.c11_session.specs.declared.rule.View.{View}
use Rattle.c11_session.specs.Places.{Finishes, HasPlayed, HoldsStill, IsBlocked, IsSeated, SameCounts, sitting_of}
use Rattle.c11_session.specs.Seats.{Keeps, asks_after, code_in, replies_of}
use Rattle.c11_session.specs.Steps.{Ending, EndsTurn, Leaves, MayEnd, account_after, after_turn, first_number, for_good, waits, went}
use Rattle.c11_session.specs.Turns.{Held, HasReason}
use Rattle.c11_session.proofs.Accounts.{steps_prefix}
use Rattle.c11_session.proofs.Lists.{prefix_self}

-- ---- before the end

module _ {p : Place} {turned : Turned} {word : ℕ} (h : HasPlayed p turned word) where
  -- the session was not seen stopped where the memory found no verdict
  goes_still : h.found.verdict ≡ None → p.chair.me.0.mine.stopped ≡ false
  goes_still nothing = sym h.kept ∙ ap is_some nothing

  stops_not : {A : Type 0} → h.found.verdict ≡ None → p.chair.me.0.mine.stopped ≡ true → A
  stops_not nothing stopped = absurd (let clash : false ≡ true = sym (goes_still nothing) ∙ stopped in cc)

  -- where no entry was added, the thread made what it had made
  same_made : h.memory.history ≡ p.chair.me.0.mine.seen → own_steps h.memory.history p.thread.number ≡ p.chair.me.0.mine.made
  same_made is = ap (λ (es : List Entry). own_steps es p.thread.number) is ∙ h.part.own

  may_end : (how : Ending) → Leaves how p.chair.me.0.mine.seen p.thread.number h.memory
      → (p.chair.me.0.mine.stopped ≡ true → (h.memory.history ≡ p.chair.me.0.mine.seen) × (is_some h.memory.verdict ≡ true)) → MayEnd how p.chair.me word
  may_end how leaves stays = record {
    ticket = h.ticket;
    turn = h.in_turn;
    number = p.thread.number;
    one = h.part.one;
    memory = h.memory;
    in_hand = h.in_hand;
    terms = p.terms;
    carried = h.part.carried;
    stands = h.turn.has;
    follows = h.turn.follows;
    short = h.short;
    fits = h.fits;
    leaves = leaves;
    stays = stays;
    is_front = h.is_word;
  }

-- ---- after it

module _ {p : Place} {turned : Turned} {word : ℕ} (h : HasPlayed p turned word) (how : Ending) (chair : Seat Held View) (ended : EndsTurn how p.chair.me chair.me) where
  view_after : chair.me ≡ (record p.chair.me.0 { stage = Idle; mine = account_after how p.chair.me.0.mine h.memory }, [])
  view_after = ended ∙ ap (λ (held : List (ℕ × Held)). (after_turn how p.chair.me.0 held, [])) h.in_hand

  mine_after : chair.me.0.mine ≡ account_after how p.chair.me.0.mine h.memory
  mine_after = ap (λ (m : Me Held View). m.0.mine) view_after

  seen_after : chair.me.0.mine.seen ≡ h.memory.history
  seen_after = ap (λ (a : Account). a.seen) mine_after

  stopped_after : chair.me.0.mine.stopped ≡ is_some h.memory.verdict
  stopped_after = ap (λ (a : Account). a.stopped) mine_after

  made_after : chair.me.0.mine.made ≡ own_steps h.memory.history p.thread.number
  made_after = ap (λ (a : Account). a.made) mine_after ∙ ap (λ (ns : List ℕ). own_steps h.memory.history (first_number ns)) h.part.one

  counts_after : SameCounts p.chair.me.0.mine chair.me.0.mine
  counts_after = record { loads = ap (λ (a : Account). a.loads) mine_after; drawn = ap (λ (a : Account). a.drawn) mine_after }

  -- with what becomes of the machine, the ask and the rest of the seat
  module _ (thread : Standing) (same : thread.number ≡ p.thread.number) (ask : Option Ask) (over : Bool) (told : Rest) where
    abbrev q : Place
    q = record p { chair = chair; thread = thread; ask = ask; over = over; rest = told }

    seated_after : Stands (code_in p.terms) thread (replies_of (own_steps h.memory.history p.thread.number))
        → ((a : Ask) → ask ≡ Some a → (asks_after p.terms (own_steps h.memory.history p.thread.number) ≡ Some a) × (thread.config.state.replies ≡ []))
        → (IsTrue over ↔ IsOver (own_steps h.memory.history p.thread.number))
        → HoldsStill p.terms thread.number ask (account_after how p.chair.me.0.mine h.memory) told
        → IsSeated q
    seated_after stands asked is_over holds = record {
      empty = ap (λ (m : Me Held View). m.1) view_after;
      idle = ap (λ (m : Me Held View). m.0.stage) view_after;
      alone = ap (λ (m : Me Held View). m.0.gathered) view_after ∙ h.alone;
      part = record {
        one = ap (λ (a : Account). a.numbers) mine_after ∙ (h.part.one ∙ (λ i. sym same i ∷ []));
        below = subst (λ (u : ℕ). u < thread_limit) (sym same) h.part.below;
        carried = ap (λ (a : Account). a.terms) mine_after ∙ h.part.carried;
        follows = subst (λ (es : List Entry). FollowsTerms p.terms es) (sym seen_after) h.turn.follows;
        own = ap (λ (es : List Entry). own_steps es thread.number) seen_after ∙ (ap (λ (u : ℕ). own_steps h.memory.history u) same ∙ sym made_after);
        stands = subst (λ (es : List Entry). Stands (code_in p.terms) thread (replies_of es)) (sym made_after) stands;
      };
      asked = λ a is. let x = asked a is in (subst (λ (es : List Entry). asks_after p.terms es ≡ Some a) (sym made_after) x.0, x.1);
      over = subst (λ (es : List Entry). IsTrue over ↔ IsOver es) (sym made_after) is_over;
      holds = subst (λ (a : Account). HoldsStill p.terms thread.number ask a told) (sym mine_after) holds;
    }

    keeps_after : IsPrefix p.chair.me.0.mine.seen h.memory.history
        → (p.chair.me.0.mine.stopped ≡ true → (h.memory.history ≡ p.chair.me.0.mine.seen) × (is_some h.memory.verdict ≡ true))
        → chair.table_id ≡ p.chair.table_id → Keeps (sitting_of p) (sitting_of q)
    keeps_after later stays table = record {
      table = table;
      terms = refl;
      number = same;
      later = subst (λ (es : List Entry). IsPrefix p.chair.me.0.mine.seen es) (sym seen_after) later;
      stays = λ e. let x = stays e in (stopped_after ∙ x.1, seen_after ∙ x.0);
    }

  -- where no entry was added
  made_kept : h.memory.history ≡ p.chair.me.0.mine.seen → chair.me.0.mine.made ≡ p.chair.me.0.mine.made
  made_kept is = made_after ∙ same_made h is

  module _ (is : h.memory.history ≡ p.chair.me.0.mine.seen) (told : Rest) where
    seated_same : HoldsStill p.terms p.thread.number p.ask (account_after how p.chair.me.0.mine h.memory) told → IsSeated record p { chair = chair; rest = told }
    seated_same holds =
        let made = same_made h is in
        seated_after p.thread refl p.ask p.over told
        (subst (λ (es : List Entry). Stands (code_in p.terms) p.thread (replies_of es)) (sym made) h.part.stands)
        (λ a asked. (ap (λ (es : List Entry). asks_after p.terms es) made ∙ (h.asked ∙ (sym h.in_mind ∙ asked)), h.taken))
        (subst (λ (es : List Entry). IsTrue p.over ↔ IsOver es) (sym made)
        (λ yes. absurd (let clash : false ≡ true = sym h.going ∙ yes in cc), λ over. absurd (h.not_over over)))
        holds

    keeps_same : (p.chair.me.0.mine.stopped ≡ true → is_some h.memory.verdict ≡ true) → chair.table_id ≡ p.chair.table_id
        → Keeps (sitting_of p) (sitting_of record p { chair = chair; rest = told })
    keeps_same stays table =
        keeps_after p.thread refl p.ask p.over told
        (subst (λ (es : List Entry). IsPrefix p.chair.me.0.mine.seen es) (sym is) (prefix_self p.chair.me.0.mine.seen))
        (λ e. (is, stays e)) table

-- ---- the thread made its step

module _ {p : Place} {reply : Reply} {word : ℕ} (h : HasPlayed p (deed.Went reply) word) where
  gained : h.memory.history ≡ p.chair.me.0.mine.seen ++ h.turn.does.entry ∷ []
  gained = h.turn.does.gained ∙ ap (λ (es : List Entry). es ++ h.turn.does.entry ∷ []) h.entries

  made_more : own_steps h.memory.history p.thread.number ≡ p.chair.me.0.mine.made ++ h.turn.does.entry ∷ []
  made_more =
      ap (λ (es : List Entry). own_steps es p.thread.number) gained
      ∙ (own_gained p.chair.me.0.mine.seen h.turn.does.entry p.thread.number h.turn.does.of_thread h.turn.does.step
      ∙ ap (λ (es : List Entry). es ++ h.turn.does.entry ∷ []) h.part.own)

  pub may_go : MayEnd went p.chair.me word
  may_go = may_end h went (h.turn.does.entry, h.turn.does.of_thread, h.turn.does.step, gained) (stops_not h h.turn.does.none)

  told_more : replies_of (own_steps h.memory.history p.thread.number) ≡ replies_of p.chair.me.0.mine.made ++ reply ∷ []
  told_more =
      ap replies_of made_more ∙ (map-append (λ (e : Entry). e.reply) p.chair.me.0.mine.made (h.turn.does.entry ∷ [])
      ∙ (λ i. replies_of p.chair.me.0.mine.made ++ h.turn.does.told i ∷ []))

  seen_more : IsPrefix p.chair.me.0.mine.seen h.memory.history
  seen_more = (h.turn.does.entry ∷ [], sym gained)

  reason_after : HasReason (account_after went p.chair.me.0.mine h.memory)
  reason_after = ⊎_elim
      (λ (x : p.chair.me.0.mine.waited ≤ step_count p.chair.me.0.mine.seen). inl (let le = steps_prefix p.chair.me.0.mine.seen h.memory.history seen_more in omega (arith, x, le)))
      (λ (x : p.chair.me.0.mine.stopped ≡ true). stops_not h h.turn.does.none x) h.reason

  -- whether the thread is over now, by its operation and its reply
  over_after : (over : Bool) → (IsTrue over ↔ Ends h.ask.op reply) → IsTrue over ↔ IsOver (own_steps h.memory.history p.thread.number)
  over_after over ends = subst (λ (es : List Entry). IsTrue over ↔ IsOver es) (sym made_more) (
    λ yes. over_by p.chair.me.0.mine.made h.turn.does.entry (subst (λ (x : Op × Reply). Ends x.0 x.1) (λ i. (sym h.turn.does.op i, sym h.turn.does.told i)) (ends.0 yes)),
    λ is. ends.1 (subst (λ (x : Op × Reply). Ends x.0 x.1) (λ i. (h.turn.does.op i, h.turn.does.told i)) (over_last p.chair.me.0.mine.made h.turn.does.entry is)),
  )

  pub finish_gone : (chair : Seat Held View) (thread : Standing) (over : Bool) → EndsTurn went p.chair.me chair.me → chair.table_id ≡ p.chair.table_id → thread.number ≡ p.thread.number
      → Stands (code_in p.terms) thread (replies_of p.chair.me.0.mine.made ++ reply ∷ []) → (IsTrue over ↔ Ends h.ask.op reply)
      → Finishes p (record p { chair = chair; thread = thread; ask = None; over = over; rest = rest.Ready }) (answer.Went reply)
  finish_gone chair thread over ended table same stands ends =
      let seen = seen_after h went chair ended in
      record {
        seated = seated_after h went chair ended thread same None over rest.Ready
            (subst (λ (rs : List Reply). Stands (code_in p.terms) thread rs) (sym told_more) stands)
            (λ a is. absurd (let clash : None ≡ Some a = is in cc)) (over_after over ends) (refl, reason_after);
        keeps = keeps_after h went chair ended thread same None over rest.Ready seen_more (stops_not h h.turn.does.none) table;
        tells = record {
          entry = h.turn.does.entry;
          made = made_after h went chair ended ∙ made_more;
          before = p.chair.me.0.mine.seen;
          last = seen ∙ gained;
          ask = h.ask;
          asked = h.asked;
          line = h.turn.does.line;
          op = h.turn.does.op;
          told = h.turn.does.told;
          of_thread = h.turn.does.of_thread;
          step = h.turn.does.step;
          was = goes_still h h.turn.does.none;
          verdict = h.memory.verdict;
          stands = subst (λ (es : List Entry). StepVerdict p.terms.bound es h.memory.verdict) (sym seen) h.turn.does.verdict;
          stops = stopped_after h went chair ended;
          used = refl;
        };
        counts = counts_after h went chair ended;
        short = refl;
      }

-- ---- the thread waits

module _ {p : Place} {holder : Holder} {count word : ℕ} (h : HasPlayed p (deed.Waits holder count) word) where
  same_waiting : h.memory.history ≡ p.chair.me.0.mine.seen
  same_waiting = ap (λ (m : Execution). m.history) h.turn.does.same ∙ h.entries

  undecided : h.memory.verdict ≡ None
  undecided = ap (λ (m : Execution). m.verdict) h.turn.does.same ∙ h.turn.does.none

  pub may_wait : MayEnd waits p.chair.me word
  may_wait = may_end h waits (same_waiting, undecided) (stops_not h h.turn.does.none)

  blocked_now : blocked_by (events_of h.memory.history) p.thread.number h.ask.op ≡ Some holder
  blocked_now = ap (λ (m : Execution). blocked_by (events_of m.history) p.thread.number h.ask.op) h.turn.does.same ∙ h.turn.does.blocked

  long_now : length h.memory.history ≡ count
  long_now = ap (λ (m : Execution). length m.history) h.turn.does.same ∙ sym h.turn.does.long

  waits_at_end : IsBlocked p.thread.number p.ask (account_after waits p.chair.me.0.mine h.memory) holder count
  waits_at_end = record { ask = h.ask; is = h.in_mind; blocked = blocked_now; long = long_now; going = ap is_some undecided; goes_on = refl; waited = refl }

  pub finish_blocked : (chair : Seat Held View) → EndsTurn waits p.chair.me chair.me → chair.table_id ≡ p.chair.table_id
      → Finishes p (record p { chair = chair; rest = rest.Waits holder count }) (answer.Waits holder count)
  finish_blocked chair ended table =
      let seen = seen_after h waits chair ended in
      record {
        seated = seated_same h waits chair ended same_waiting (rest.Waits holder count) waits_at_end;
        keeps = keeps_same h waits chair ended same_waiting (rest.Waits holder count) (stops_not h h.turn.does.none) table;
        tells = record {
          made = made_kept h waits chair ended same_waiting;
          long = ap length seen ∙ long_now;
          ask = h.ask;
          asked = h.asked;
          blocked = ap (λ (es : List Entry). blocked_by (events_of es) p.thread.number h.ask.op) seen ∙ blocked_now;
          was = goes_still h h.turn.does.none;
          goes_on = stopped_after h waits chair ended ∙ ap is_some undecided;
          kept = refl;
          may_go_on = ap (λ (a : Account). a.given_up) (mine_after h waits chair ended);
          waited = ap (λ (a : Account). a.waited) (mine_after h waits chair ended) ∙ ap (λ (es : List Entry). step_count es + 1) (sym seen);
        };
        counts = counts_after h waits chair ended;
        short = refl;
      }

-- ---- the session has stopped

module _ {p : Place} {v : Verdict} {word : ℕ} (h : HasPlayed p (deed.Stopped v) word) where
  same_stopped : h.memory.history ≡ p.chair.me.0.mine.seen
  same_stopped = h.turn.does.entries ∙ h.entries

  decided : is_some h.memory.verdict ≡ true
  decided = ap is_some h.turn.does.kept

  pub may_stop : MayEnd for_good p.chair.me word
  may_stop = may_end h for_good same_stopped (λ e. (same_stopped, decided))

  pub finish_stopped : (chair : Seat Held View) → EndsTurn for_good p.chair.me chair.me → chair.table_id ≡ p.chair.table_id
      → Finishes p (record p { chair = chair; rest = rest.Stopped v }) (answer.Stopped v)
  finish_stopped chair ended table = record {
    seated = seated_same h for_good chair ended same_stopped (rest.Stopped v) (refl, decided, h.turn.does.verdict);
    keeps = keeps_same h for_good chair ended same_stopped (rest.Stopped v) (λ _. decided) table;
    tells = record {
      made = made_kept h for_good chair ended same_stopped;
      verdict = subst (λ (es : List Entry). VerdictOf (next_in p.terms es) p.terms.bound es (Some v)) (sym (seen_after h for_good chair ended)) h.turn.does.verdict;
      stopped = stopped_after h for_good chair ended ∙ decided;
      for_good = ap (λ (a : Account). a.given_up) (mine_after h for_good chair ended);
      kept = refl;
    };
    counts = counts_after h for_good chair ended;
    short = refl;
  }

-- ---- memory ran out

module _ {p : Place} {word : ℕ} (h : HasPlayed p deed.NoMemory word) where
  same_short : h.memory.history ≡ p.chair.me.0.mine.seen
  same_short = ap (λ (m : Execution). m.history) h.turn.does.same ∙ h.entries

  pub may_give_up : MayEnd for_good p.chair.me word
  may_give_up = may_end h for_good same_short (stops_not h h.turn.does.none)

  pub finish_short : (chair : Seat Held View) → EndsTurn for_good p.chair.me chair.me → chair.table_id ≡ p.chair.table_id
      → Finishes p (record p { chair = chair; rest = rest.NoMemory }) answer.NoMemory
  finish_short chair ended table = record {
    seated = seated_same h for_good chair ended same_short rest.NoMemory refl;
    keeps = keeps_same h for_good chair ended same_short rest.NoMemory (stops_not h h.turn.does.none) table;
    tells = record {
      made = made_kept h for_good chair ended same_short;
      was = inr (goes_still h h.turn.does.none);
      for_good = ap (λ (a : Account). a.given_up) (mine_after h for_good chair ended);
      kept = refl;
    };
    counts = counts_after h for_good chair ended;
    short = refl;
  }
