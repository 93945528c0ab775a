-- What a further event adds to what must precede what.
use Rattle.std.proofs.Common.{◌≡◌, ℕ, suc, ◌≤◌, true, List, [], ◌∷◌, ◌++◌, Option, Some, None, length, refl, sym, ap, ◌∙◌, subst, arith, ◌⊎◌, inl, inr}
use Rattle.c11_events.specs.declared.event.Event.{Event}
use Rattle.c11_events.specs.declared.event.EventKind.{EventKind}
use Rattle.c11_events.specs.declared.event.EventKind.TheVariants.{Init, AtomicStore, Rmw}
use Rattle.c11_events.specs.Closure.{one, join}
use Rattle.c11_events.specs.Events.{At, IsStore, IsLoad, ReadsEarlier, stored_cell, loaded_cell, locked_mutex, joined_thread, is_acquire_fence}
use Rattle.c11_events.specs.HappensBefore.{ProgramOrder, CreateBeforeFirst, HappensBefore}
use Rattle.c11_events.specs.Chains.{Cause, write_write, write_read, read_write, read_read, seq_cst, fenced_read, fenced_write, MustPrecede, Link, Reach, ChainLawful}
use Rattle.c11_events.specs.Priors.{IsKnown, Prior, known_store, known_load, fenced}
use Rattle.c11_events.specs.Added.{ReadsStore, PriorWrite, Adds}
use Rattle.c11_events.specs.Laws.{EventAdds, ReachOrders, ReachStays}
use Rattle.c11_events.proofs.ReadBy.{Sync, sync_of, Acquires, IsReadBy, read, mutex, create, finish}
use Rattle.c11_events.proofs.DecideEvents.{at_below}
use Rattle.c11_events.proofs.Acquiring.{known_before, prior_store}
use Rattle.c11_events.proofs.Acquiring as acquiring
use Rattle.c11_events.proofs.Fitting as fitting
use Rattle.c11_events.proofs.Others as others
use Rattle.c11_events.proofs.Longer.{new_is, old_or_new}
use Rattle.c11_events.proofs.Prefix.{closure_map, store_more, store_less, load_more, load_less, hb_less}
use Rattle.c11_events.proofs.Prefixes.{must_more, must_less, ranked_more, link_more}
use Rattle.c11_events.proofs.Ranks.{placed, ranked_same}
use Rattle.c11_events.proofs.Reaches.{reach_join, reach_irreflexive, must_reach}
use Rattle.c11_events.proofs.Rises.{hb_rises}

store_no_lock : (kind : EventKind) (m d : ℕ) → stored_cell kind ≡ Some d → locked_mutex kind ≡ Some m → ⊥
store_no_lock (Init cell value) m d e f = cc
store_no_lock (AtomicStore cell order value) m d e f = cc
store_no_lock (Rmw cell order kind operand) m d e f = cc
store_no_lock _ m d e f = cc

store_no_join : (kind : EventKind) (u d : ℕ) → stored_cell kind ≡ Some d → joined_thread kind ≡ Some u → ⊥
store_no_join (Init cell value) m d e f = cc
store_no_join (AtomicStore cell order value) m d e f = cc
store_no_join (Rmw cell order kind operand) m d e f = cc
store_no_join _ m d e f = cc

store_no_fence : (kind : EventKind) (d : ℕ) → stored_cell kind ≡ Some d → is_acquire_fence kind ≡ true → ⊥
store_no_fence (Init cell value) d e f = cc
store_no_fence (AtomicStore cell order value) d e f = cc
store_no_fence (Rmw cell order kind operand) d e f = cc
store_no_fence _ d e f = cc

-- it must precede a store that the further event is
prior_cause : (events : List Event) (e : Event) (cell a : ℕ) → Prior events e cell a → Cause (events ++ e ∷ []) cell a (suc (length events))
prior_cause events e cell a (known_store s k) = write_write (known_before events e a k)
prior_cause events e cell a (known_load {l = l} load k) = read_write (load_more events (e ∷ []) cell l a load) (known_before events e l k)
prior_cause events e cell a (fenced s f) = fenced_write f

must_write : (events : List Event) (e : Event) (cell a : ℕ) → ReadsEarlier events → stored_cell e.kind ≡ Some cell → PriorWrite events e cell a → MustPrecede (events ++ e ∷ []) cell a (suc (length events))
must_write events e cell a reads stores p =
    let store : IsStore events cell a = elim p [ inl q ↦ prior_store events e cell a reads q | inr q ↦ q.0 ] in
    record {
      first = store_more events (e ∷ []) cell a store;
      second = record { event = e; is = new_is events e; holds = stores };
      differ = λ same. omega (arith, same, at_below events a (λ f. stored_cell f.kind ≡ Some cell) store);
      cause = elim p [ inl q ↦ prior_cause events e cell a q | inr q ↦ seq_cst q.1 ];
    }

-- the further event reads a store of its cell
module _ (events : List Event) (e : Event) (cell : ℕ) (c : ChainLawful events) (store : IsStore events cell e.from) (loads : loaded_cell e.kind ≡ Some cell) where
  same_cell : (d : ℕ) → loaded_cell e.kind ≡ Some d → cell ≡ d
  same_cell d is = fitting.load_cell events e cell c store loads d is

  reading_old : (d a b : ℕ) → b ≤ length events → ((loaded_cell e.kind ≡ Some d) × (b ≡ e.from) → ⊥) → MustPrecede (events ++ e ∷ []) d a b → MustPrecede events d a b
  reading_old d a b le apart m =
      let here = store_less events (e ∷ []) d b le m.second in
      fitting.must_old events e cell c store loads d a b le
      (λ is. apart (loads ∙ ap (λ (k : ℕ). Some k) (sym (fitting.read_cell events e cell c store loads d b is here)), is)) m

  first_is : (d a b : ℕ) → MustPrecede (events ++ e ∷ []) d a b → IsStore events d a
  first_is d a b m = store_less events (e ∷ []) d a (fitting.first_old events e cell c store loads d a b m) m.first

  reading_read : (a : ℕ) → MustPrecede (events ++ e ∷ []) cell a e.from → Prior events e cell a ⊎ Reach events cell a e.from
  reading_read a m = elim (acquiring.read_pair events e cell c store loads a (first_is cell a e.from m) m.differ m.cause) [
    | inl p ↦ inl p
    | inr q ↦ elim q [ inl same ↦ absurd (m.differ same) | inr r ↦ inr r ]
  ]

  reading_written : (a : ℕ) → MustPrecede (events ++ e ∷ []) cell a (suc (length events)) → PriorWrite events e cell a ⊎ ((a ≡ e.from) ⊎ Reach events cell a e.from)
  reading_written a m = elim (acquiring.write_pair events e cell c store loads a (first_is cell a (suc (length events)) m) m.cause) [
    | inl k ↦ elim k [ inl p ↦ inl (inl p) | inr q ↦ inr q ]
    | inr s ↦ inl (inr (first_is cell a (suc (length events)) m, s))
  ]

  written_cell : (d a : ℕ) → MustPrecede (events ++ e ∷ []) d a (suc (length events)) → cell ≡ d
  written_cell d a m = elim (old_or_new events e (suc (length events)) (λ f. stored_cell f.kind ≡ Some d) m.second) [
    | inl le ↦ absurd (omega arith)
    | inr p ↦ sym (fitting.new_store_cell events e cell c store loads d p.1)
  ]

  reading_adds : Adds events e
  reading_adds = record {
    old = reading_old;
    read = λ d a is. subst (λ (k : ℕ). MustPrecede (events ++ e ∷ []) k a e.from → Prior events e k a ⊎ Reach events k a e.from) (same_cell d is) (reading_read a);
    written = λ d a m.
        let same = written_cell d a m in
        let t = reading_written a (subst (λ (k : ℕ). MustPrecede (events ++ e ∷ []) k a (suc (length events))) (sym same) m) in
        subst (λ (k : ℕ). PriorWrite events e k a ⊎ ((loaded_cell e.kind ≡ Some k) × ((a ≡ e.from) ⊎ Reach events k a e.from))) same (elim t [ inl p ↦ inl p | inr q ↦ inr (loads, q) ]);
    prior_read = λ d a is differ p. subst (λ (k : ℕ). Prior events e k a → MustPrecede (events ++ e ∷ []) k a e.from) (same_cell d is)
        (λ q. record {
          first = store_more events (e ∷ []) cell a (prior_store events e cell a c.reads q);
          second = store_more events (e ∷ []) cell e.from store;
          differ = differ;
          cause = acquiring.prior_cause events e cell c store loads a q;
        }) p;
    prior_write = λ d a stores p. must_write events e d a c.reads stores p;
  }

-- the further event reads no atomic cell
module _ (events : List Event) (e : Event) (c : ChainLawful events) (none : loaded_cell e.kind ≡ None) where
  reads : ReadsEarlier (events ++ e ∷ [])
  reads = others.reads_all events e c none

  new_holds : (P : Event → Type 0) → At (events ++ e ∷ []) (suc (length events)) P → P e
  new_holds P t = elim (old_or_new events e (suc (length events)) P t) [ inl le ↦ absurd (omega arith) | inr p ↦ p.1 ]

  plain_first : (d a b : ℕ) → MustPrecede (events ++ e ∷ []) d a b → IsStore events d a
  plain_first d a b m = store_less events (e ∷ []) d a (others.first_old events e c none d a b m) m.first

  plain_old : (d a b : ℕ) → b ≤ length events → MustPrecede (events ++ e ∷ []) d a b → MustPrecede events d a b
  plain_old d a b le m = must_less events (e ∷ []) reads d a b le (λ n load. others.load_old events e c none d n b load) m

  module _ (cell : ℕ) (stores : stored_cell e.kind ≡ Some cell) where
    not_read : (a : ℕ) → IsReadBy (events ++ e ∷ []) a (suc (length events)) → ⊥
    not_read a r = elim r.acquires [
      | Acquires.load same is ↦ (let l = new_holds (λ f. (loaded_cell f.kind ≡ Some r.cell) × (f.from ≡ r.x)) (subst (λ (z : ℕ). IsLoad (events ++ e ∷ []) r.cell z r.x) (sym same) r.reads) in
          let clash : None ≡ Some r.cell = sym none ∙ l.0 in cc)
      | Acquires.fence is o ↦ store_no_fence e.kind cell stores (new_holds (λ f. is_acquire_fence f.kind ≡ true) is)
    ]

    last_sync : (a n : ℕ) → n ≡ suc (length events) → Sync (events ++ e ∷ []) a n → IsKnown events e a
    last_sync a n is (read r) = absurd (not_read a (subst (λ (z : ℕ). IsReadBy (events ++ e ∷ []) a z) is r))
    last_sync a n is (mutex u) = absurd (store_no_lock e.kind u.mutex cell stores (new_holds (λ f. locked_mutex f.kind ≡ Some u.mutex) (subst (λ (z : ℕ). At (events ++ e ∷ []) z (λ f. locked_mutex f.kind ≡ Some u.mutex)) is u.lock)))
    last_sync a n is (create k) = record { m = a; last = inr (subst (λ (z : ℕ). CreateBeforeFirst (events ++ e ∷ []) a z) is k); leads = inl refl }
    last_sync a n is (finish k) = absurd (store_no_join e.kind k.end.event.thread cell stores (new_holds (λ f. joined_thread f.kind ≡ Some k.end.event.thread) (subst (λ (z : ℕ). At (events ++ e ∷ []) z (λ f. joined_thread f.kind ≡ Some k.end.event.thread)) is k.end.holds.1)))

    last_step : (a n : ℕ) → n ≡ suc (length events) → HappensBefore (events ++ e ∷ []) a n → IsKnown events e a
    last_step a n is (one (inl p)) = record { m = a; last = inl (subst (λ (z : ℕ). ProgramOrder (events ++ e ∷ []) a z) is p); leads = inl refl }
    last_step a n is (one (inr s)) = last_sync a n is (sync_of (events ++ e ∷ []) a n s)
    last_step a n is (join {b = b} v w) =
        let h = hb_less events (e ∷ []) reads a b (omega (arith, hb_rises (events ++ e ∷ []) b n reads w)) v in
        let k = last_step b n is w in
        record { m = k.m; last = k.last; leads = inr (elim k.leads [ inl same ↦ subst (λ (z : ℕ). HappensBefore events a z) same h | inr j ↦ join h j ]) }

    no_reader : (l : ℕ) → IsLoad (events ++ e ∷ []) cell l (suc (length events)) → ⊥
    no_reader l load = omega (arith, others.load_old events e c none cell l (suc (length events)) load, (reads cell l (suc (length events)) load).1)

    below_new : (l : ℕ) → HappensBefore (events ++ e ∷ []) l (suc (length events)) → l ≤ length events
    below_new l h = omega (arith, hb_rises (events ++ e ∷ []) l (suc (length events)) reads h)

    plain_pair : (a : ℕ) → IsStore events cell a → Cause (events ++ e ∷ []) cell a (suc (length events)) → PriorWrite events e cell a
    plain_pair a sa (write_write h) = inl (known_store sa (last_step a (suc (length events)) refl h))
    plain_pair a sa (write_read {l = l} h load) = absurd (no_reader l load)
    plain_pair a sa (read_write {l = l} load h) = inl (known_load (load_less events (e ∷ []) cell l a (below_new l h) load) (last_step l (suc (length events)) refl h))
    plain_pair a sa (read_read {l = l} {k = k} load load' h) = absurd (no_reader k load')
    plain_pair a sa (seq_cst s) = inr (sa, s)
    plain_pair a sa (fenced_read {l = l} f load) = absurd (no_reader l load)
    plain_pair a sa (fenced_write f) = inl (fenced sa f)

  plain_written : (d a : ℕ) → MustPrecede (events ++ e ∷ []) d a (suc (length events)) → PriorWrite events e d a
  plain_written d a m = plain_pair d (new_holds (λ f. stored_cell f.kind ≡ Some d) m.second) a (plain_first d a (suc (length events)) m) m.cause

  loads_nothing : (d : ℕ) → loaded_cell e.kind ≡ Some d → ⊥
  loads_nothing d is = let clash : None ≡ Some d = sym none ∙ is in cc

  plain_adds : Adds events e
  plain_adds = record {
    old = λ d a b le apart m. plain_old d a b le m;
    read = λ d a is. absurd (loads_nothing d is);
    written = λ d a m. inl (plain_written d a m);
    prior_read = λ d a is. absurd (loads_nothing d is);
    prior_write = λ d a stores p. must_write events e d a c.reads stores p;
  }

by_read : (events : List Event) (e : Event) → ChainLawful events → ReadsStore events e → (o : Option ℕ) → loaded_cell e.kind ≡ o → Adds events e
by_read events e c store None is = plain_adds events e c is
by_read events e c store (Some cell) is = reading_adds events e cell c (store cell is) is

pub event_adds : EventAdds
event_adds events e c store = by_read events e c store (loaded_cell e.kind) refl

pub reach_orders : ReachOrders
reach_orders events cell c = record {
  joins = reach_join events c cell;
  strict = reach_irreflexive events c cell;
  must = must_reach events c cell;
  ranked = λ x s. let p = placed events cell c.reads x s in (p.0, p.1.0, p.1.1);
  ranked_once = λ x h k i j r s. ranked_same events cell h k i j x r s;
}

pub reach_stays : ReachStays
reach_stays events more cell = record {
  must = must_more events more cell;
  ranked = ranked_more events more cell;
  reached = λ a b r. record {
    h = r.h;
    k = r.k;
    i = r.i;
    j = r.j;
    first = ranked_more events more cell r.h r.i a r.first;
    second = ranked_more events more cell r.k r.j b r.second;
    leads = elim r.leads [ inl p ↦ inl (p.0, closure_map (Link events cell) (Link (events ++ more) cell) (link_more events more cell) r.h r.k p.1) | inr p ↦ inr p ];
  };
}
