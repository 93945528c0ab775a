-- What happens before a read only by its reading adds nothing.
use Rattle.std.proofs.Common.{◌≡◌, ℕ, suc, ◌≤◌, true, List, [], ◌∷◌, ◌++◌, Some, length, refl, sym, subst, arith, ◌⊎◌, inl, inr}
use Rattle.c11_events.specs.declared.event.Event.{Event}
use Rattle.c11_events.specs.declared.event.EventKind.{EventKind}
use Rattle.c11_events.specs.declared.event.EventKind.TheVariants.{AtomicLoad, Rmw}
use Rattle.c11_events.specs.Closure.{one, join}
use Rattle.c11_events.specs.Events.{At, IsStore, IsLoad, IsRmw, ReadsEarlier, stored_cell, loaded_cell, locked_mutex, joined_thread, is_acquire_fence}
use Rattle.c11_events.specs.HappensBefore.{ReleaseSequence, here, next}
use Rattle.c11_events.specs.HappensBefore.{ProgramOrder, CreateBeforeFirst, create_to_first, HappensBefore, SeqCstBefore}
use Rattle.c11_events.proofs.ReadBy.{Sync, sync_of, Releases, Acquires, IsReadBy, read, mutex, create, finish}
use Rattle.c11_events.specs.Lawful.{Fenced}
use Rattle.c11_events.specs.Chains.{Cause, write_write, write_read, read_write, read_read, seq_cst, fenced_read, fenced_write, MustPrecede, Reach, ChainLawful}
use Rattle.c11_events.specs.Priors.{Fits}
use Rattle.c11_events.specs.Priors.{IsKnown, Prior, known_store, known_load, fenced, FitsPriors}
use Rattle.c11_events.specs.Laws.{ReadFitsPriors}
use Rattle.c11_events.proofs.Basics.{at_same, chain_head}
use Rattle.c11_events.proofs.DecideEvents.{at_below}
use Rattle.c11_events.proofs.Fitting.{reads_all, first_old, load_cell, from_below, new_load, new_rmw, fits_lawful, lawful_fits}
use Rattle.c11_events.proofs.Longer.{new_is, old_or_new}
use Rattle.c11_events.proofs.Prefix.{store_more, store_less, load_more, load_less, chain_less, program_less, hb_more, hb_less, seq_before_less, fenced_less}
use Rattle.c11_events.proofs.Reaches.{reach_join, reach_irreflexive, must_reach, chain_reach, reach_on}
use Rattle.c11_events.proofs.Rises.{hb_rises}

no_lock : (kind : EventKind) (m d : ℕ) → loaded_cell kind ≡ Some d → locked_mutex kind ≡ Some m → ⊥
no_lock (AtomicLoad cell order) m d e f = cc
no_lock (Rmw cell order kind operand) m d e f = cc
no_lock _ m d e f = cc

no_join : (kind : EventKind) (u d : ℕ) → loaded_cell kind ≡ Some d → joined_thread kind ≡ Some u → ⊥
no_join (AtomicLoad cell order) m d e f = cc
no_join (Rmw cell order kind operand) m d e f = cc
no_join _ m d e f = cc

no_fence : (kind : EventKind) (d : ℕ) → loaded_cell kind ≡ Some d → is_acquire_fence kind ≡ true → ⊥
no_fence (AtomicLoad cell order) d e f = cc
no_fence (Rmw cell order kind operand) d e f = cc
no_fence _ d e f = cc

-- what the thread knows happens before its further event
pub known_before : (events : List Event) (e : Event) (a : ℕ) → IsKnown events e a → HappensBefore (events ++ e ∷ []) a (suc (length events))
known_before events e a k = elim k.leads [
  | inl same ↦ subst (λ (z : ℕ). HappensBefore (events ++ e ∷ []) z (suc (length events))) (sym same) (elim k.last [ inl p ↦ one (inl p) | inr p ↦ one (inr (create_to_first p)) ])
  | inr h ↦ join (hb_more events (e ∷ []) a k.m h) (elim k.last [ inl p ↦ one (inl p) | inr p ↦ one (inr (create_to_first p)) ])
]

-- a prior store is one
pub prior_store : (events : List Event) (e : Event) (cell a : ℕ) → ReadsEarlier events → Prior events e cell a → IsStore events cell a
prior_store events e cell a reads (known_store s k) = s
prior_store events e cell a reads (known_load {l = l} load k) = (reads cell l a load).0
prior_store events e cell a reads (fenced s f) = s

module _ (events : List Event) (e : Event) (cell : ℕ) (c : ChainLawful events) (store : IsStore events cell e.from) (loads : loaded_cell e.kind ≡ Some cell) where
  reads : ReadsEarlier (events ++ e ∷ [])
  reads = reads_all events e cell c store loads

  new_holds : (P : Event → Type 0) → At (events ++ e ∷ []) (suc (length events)) P → P e
  new_holds P t = elim (old_or_new events e (suc (length events)) P t) [ inl le ↦ absurd (omega arith) | inr p ↦ p.1 ]

  abbrev SameOrHb : ℕ → ℕ → Type 0
  SameOrHb a m = (a ≡ m) ⊎ HappensBefore events a m

  hb_on : (a b m : ℕ) → HappensBefore events a b → SameOrHb b m → SameOrHb a m
  hb_on a b m h (inl same) = inr (subst (λ (z : ℕ). HappensBefore events a z) same h)
  hb_on a b m h (inr k) = inr (join h k)

  -- a comes to the new event by what it reads
  abbrev ByRead : ℕ → Type 0
  ByRead a = (m : ℕ) × (IsReadBy (events ++ e ∷ []) m (suc (length events)) × SameOrHb a m)

  last_sync : (a n : ℕ) → n ≡ suc (length events) → Sync (events ++ e ∷ []) a n → IsKnown events e a ⊎ ByRead a
  last_sync a n is (read r) = inr (a, (subst (λ (z : ℕ). IsReadBy (events ++ e ∷ []) a z) is r, inl refl))
  last_sync a n is (mutex u) = absurd (no_lock e.kind u.mutex cell loads (new_holds (λ f. locked_mutex f.kind ≡ Some u.mutex) (subst (λ (z : ℕ). At (events ++ e ∷ []) z (λ f. locked_mutex f.kind ≡ Some u.mutex)) is u.lock)))
  last_sync a n is (create k) = inl (record { m = a; last = inr (subst (λ (z : ℕ). CreateBeforeFirst (events ++ e ∷ []) a z) is k); leads = inl refl })
  last_sync a n is (finish k) = absurd (no_join e.kind k.end.event.thread cell loads (new_holds (λ f. joined_thread f.kind ≡ Some k.end.event.thread) (subst (λ (z : ℕ). At (events ++ e ∷ []) z (λ f. joined_thread f.kind ≡ Some k.end.event.thread)) is k.end.holds.1)))

  last_step : (a n : ℕ) → n ≡ suc (length events) → HappensBefore (events ++ e ∷ []) a n → IsKnown events e a ⊎ ByRead a
  last_step a n is (one (inl p)) = inl (record { m = a; last = inl (subst (λ (z : ℕ). ProgramOrder (events ++ e ∷ []) a z) is p); leads = inl refl })
  last_step a n is (one (inr s)) = last_sync a n is (sync_of (events ++ e ∷ []) a n s)
  last_step a n is (join {b = b} v w) =
      let h = hb_less events (e ∷ []) reads a b (omega (arith, hb_rises (events ++ e ∷ []) b n reads w)) v in
      elim (last_step b n is w) [
        | inl k ↦ inl (record { m = k.m; last = k.last; leads = hb_on a b k.m h k.leads })
        | inr k ↦ inr (k.0, (k.1.0, hb_on a b k.0 h k.1.1))
      ]

  -- a release that the new event reads from: a store of the chain of what it reads that is, or stands after, the release
  released : (m : ℕ) → IsReadBy (events ++ e ∷ []) m (suc (length events)) → (s : ℕ) × ((n : ℕ) × (ReleaseSequence events cell s n e.from × SameOrHb m s))
  released m r =
      let at_new : r.l ≡ suc (length events) = elim r.acquires [
        | Acquires.load same is ↦ sym same
        | Acquires.fence is o ↦ absurd (no_fence e.kind cell loads (new_holds (λ f. is_acquire_fence f.kind ≡ true) is))
      ] in
      let both = new_holds (λ f. (loaded_cell f.kind ≡ Some r.cell) × (f.from ≡ r.x)) (subst (λ (z : ℕ). IsLoad (events ++ e ∷ []) r.cell z r.x) at_new r.reads) in
      let same = load_cell events e cell c store loads r.cell both.0 in
      let chain' : ReleaseSequence (events ++ e ∷ []) cell r.s r.n e.from = subst (λ (k : ℕ). ReleaseSequence (events ++ e ∷ []) k r.s r.n e.from) (sym same) (subst (λ (z : ℕ). ReleaseSequence (events ++ e ∷ []) r.cell r.s r.n z) (sym both.1) r.chain) in
      let chain = chain_less events (e ∷ []) reads cell r.s r.n e.from (omega (arith, from_below events e cell c store loads)) chain' in (
        r.s,
        (
          r.n,
          (
            chain,
            elim r.releases [
              | Releases.store e' is ↦ inl e'
              | Releases.fence is o ↦ inr (one (inl (program_less events (e ∷ []) m r.s (chain_old r.s r.n e.from chain) o)))
            ],
          ),
        ),
      )
    where
      chain_old : (s n x : ℕ) → ReleaseSequence events cell s n x → s ≤ length events
      chain_old s n x k = omega (arith, at_below events s (λ f. stored_cell f.kind ≡ Some cell) (chain_head events cell s n x k))

  hb_to : (a m s : ℕ) → SameOrHb a m → SameOrHb m s → SameOrHb a s
  hb_to a m s (inl same) k = subst (λ (z : ℕ). SameOrHb z s) (sym same) k
  hb_to a m s (inr h) k = hb_on a m s h k

  store_by_read : (a : ℕ) → IsStore events cell a → ByRead a → (a ≡ e.from) ⊎ Reach events cell a e.from
  store_by_read a sa b =
      let t = released b.0 b.1.0 in
      let ss = chain_head events cell t.0 t.1.0 e.from t.1.1.0 in
      reach_on events c cell a t.0 t.1.0 e.from (elim (hb_to a b.0 t.0 b.1.1 t.1.1.1) [
        | inl same ↦ inl same
        | inr h ↦ inr (must_reach events c cell a t.0 (record { first = sa; second = ss; differ = λ same. absurd (omega (arith, same, hb_rises events a t.0 c.reads h)); cause = write_write h }))
      ]) t.1.1.0

  load_by_read : (a l : ℕ) → IsLoad events cell l a → ByRead l → (a ≡ e.from) ⊎ Reach events cell a e.from
  load_by_read a l load b =
      let t = released b.0 b.1.0 in
      let ss = chain_head events cell t.0 t.1.0 e.from t.1.1.0 in
      let r = c.reads cell l a load in
      reach_on events c cell a t.0 t.1.0 e.from (elim (hb_to l b.0 t.0 b.1.1 t.1.1.1) [
        | inl same ↦ chain_reach events c cell a 1 t.0 (next (here r.0) (load_store l t.0 a same load ss))
        | inr h ↦ inr (must_reach events c cell a t.0 (record { first = r.0; second = ss; differ = λ same. absurd (omega (arith, same, r.1, hb_rises events l t.0 c.reads h)); cause = read_write load h }))
      ]) t.1.1.0
    where
      load_store : (l s a : ℕ) → l ≡ s → IsLoad events cell l a → IsStore events cell s → IsRmw events cell s a
      load_store l s a same load ss = let t : IsLoad events cell s a = subst (λ (z : ℕ). IsLoad events cell z a) same load in
          let one_event = at_same events s t.event ss.event t.is ss.is in
          record { event = ss.event; is = ss.is; holds = (ss.holds, subst (λ (f : Event). (loaded_cell f.kind ≡ Some cell)) one_event t.holds.0, subst (λ (f : Event). f.from ≡ a) one_event t.holds.1) }

  pub prior_cause : (a : ℕ) → Prior events e cell a → Cause (events ++ e ∷ []) cell a e.from
  prior_cause a (known_store s k) = write_read (known_before events e a k) (new_load events e cell c store loads)
  prior_cause a (known_load {l = l} load k) = read_read (load_more events (e ∷ []) cell l a load) (new_load events e cell c store loads) (known_before events e l k)
  prior_cause a (fenced s f) = fenced_read f (new_load events e cell c store loads)

  pub to_priors : Fits events e cell → FitsPriors events e cell
  to_priors fits = record {
    prior = λ a differ p. fits.prior_read a (record { first = store_more events (e ∷ []) cell a (prior_store events e cell a c.reads p); second = store_more events (e ∷ []) cell e.from store; differ = differ; cause = prior_cause a p });
    prior_seq_cst = λ a differ is sa s. fits.prior_write a differ (record {
      first = store_more events (e ∷ []) cell a sa;
      second = record { event = e; is = new_is events e; holds = is };
      differ = λ same. absurd (omega (arith, same, s.earlier));
      cause = seq_cst s;
    });
    ends_chain = λ is b r. fits.ends_chain (new_rmw events e cell c store loads cell is refl) b r;
    seq_cst_read = λ a s. elim (fits.seq_cst_read a s) [ inl same ↦ inl same | inr n ↦ inr (n.0, (λ h. n.1 (hb_more events (e ∷ []) e.from a h))) ];
  }

  -- a pair into what is read is old, or prior, or reached anyway
  abbrev Known : ℕ → Type 0
  Known a = Prior events e cell a ⊎ ((a ≡ e.from) ⊎ Reach events cell a e.from)

  store_known : (a : ℕ) → IsStore events cell a → HappensBefore (events ++ e ∷ []) a (suc (length events)) → Known a
  store_known a sa h = elim (last_step a (suc (length events)) refl h) [ inl k ↦ inl (known_store sa k) | inr b ↦ inr (store_by_read a sa b) ]

  load_known : (a l : ℕ) → IsLoad events cell l a → HappensBefore (events ++ e ∷ []) l (suc (length events)) → Known a
  load_known a l load h = elim (last_step l (suc (length events)) refl h) [ inl k ↦ inl (known_load load k) | inr b ↦ inr (load_by_read a l load b) ]

  below_new : (l : ℕ) → HappensBefore (events ++ e ∷ []) l (suc (length events)) → l ≤ length events
  below_new l h = omega (arith, hb_rises (events ++ e ∷ []) l (suc (length events)) reads h)

  old_pair : (a : ℕ) → IsStore events cell a → (a ≡ e.from → ⊥) → Cause events cell a e.from → Known a
  old_pair a sa differ cause = inr (inr (must_reach events c cell a e.from (record { first = sa; second = store; differ = differ; cause = cause })))

  -- by whether the load is the new one
  by_load : (l : ℕ) (K : Type 0) → IsLoad (events ++ e ∷ []) cell l e.from → (l ≤ length events → IsLoad events cell l e.from → K) → (l ≡ suc (length events) → K) → K
  by_load l K load old new = elim (old_or_new events e l (λ f. (loaded_cell f.kind ≡ Some cell) × (f.from ≡ e.from)) load) [
    | inl le ↦ old le (load_less events (e ∷ []) cell l e.from le load)
    | inr p ↦ new p.0
  ]

  pub read_pair : (a : ℕ) → IsStore events cell a → (a ≡ e.from → ⊥) → Cause (events ++ e ∷ []) cell a e.from → Known a
  read_pair a sa differ (write_write h) = old_pair a sa differ (write_write (hb_less events (e ∷ []) reads a e.from (omega (arith, from_below events e cell c store loads)) h))
  read_pair a sa differ (write_read {l = l} h load) = by_load l (Known a) load
      (λ le load'. old_pair a sa differ (write_read (hb_less events (e ∷ []) reads a l le h) load')) (λ is. store_known a sa (subst (λ (z : ℕ). HappensBefore (events ++ e ∷ []) a z) is h))
  read_pair a sa differ (read_write {l = l} load h) =
      let lt = hb_rises (events ++ e ∷ []) l e.from reads h in
      let x = from_below events e cell c store loads in
      old_pair a sa differ (read_write (load_less events (e ∷ []) cell l a (omega arith) load) (hb_less events (e ∷ []) reads l e.from (omega arith) h))
  read_pair a sa differ (read_read {l = l} {k = k} load load' h) = by_load k (Known a) load'
      (λ le load''. old_pair a sa differ (read_read (load_less events (e ∷ []) cell l a (omega (arith, hb_rises (events ++ e ∷ []) l k reads h)) load) load'' (hb_less events (e ∷ []) reads l k le h)))
      (λ is. let h' : HappensBefore (events ++ e ∷ []) l (suc (length events)) = subst (λ (z : ℕ). HappensBefore (events ++ e ∷ []) l z) is h in load_known a l (load_less events (e ∷ []) cell l a (below_new l h') load) h')
  read_pair a sa differ (seq_cst s) = old_pair a sa differ (seq_cst (seq_before_less events (e ∷ []) a e.from (omega (arith, from_below events e cell c store loads)) s))
  read_pair a sa differ (fenced_read {l = l} f load) = by_load l (Known a) load
      (λ le load'. old_pair a sa differ (fenced_read (fenced_less events (e ∷ []) a l le f) load')) (λ is. inl (fenced sa (subst (λ (z : ℕ). Fenced (events ++ e ∷ []) a z) is f)))
  read_pair a sa differ (fenced_write f) = old_pair a sa differ (fenced_write (fenced_less events (e ∷ []) a e.from (omega (arith, from_below events e cell c store loads)) f))

  no_reader : (l : ℕ) → IsLoad (events ++ e ∷ []) cell l (suc (length events)) → ⊥
  no_reader l load = elim (old_or_new events e l (λ f. (loaded_cell f.kind ≡ Some cell) × (f.from ≡ suc (length events))) load) [
    | inl le ↦ omega (arith, (reads cell l (suc (length events)) load).1)
    | inr p ↦ omega (arith, p.0, (reads cell l (suc (length events)) load).1)
  ]

  pub write_pair : (a : ℕ) → IsStore events cell a → Cause (events ++ e ∷ []) cell a (suc (length events)) → Known a ⊎ SeqCstBefore (events ++ e ∷ []) a (suc (length events))
  write_pair a sa (write_write h) = inl (store_known a sa h)
  write_pair a sa (write_read {l = l} h load) = absurd (no_reader l load)
  write_pair a sa (read_write {l = l} load h) = inl (load_known a l (load_less events (e ∷ []) cell l a (below_new l h) load) h)
  write_pair a sa (read_read {l = l} {k = k} load load' h) = absurd (no_reader k load')
  write_pair a sa (seq_cst s) = inr s
  write_pair a sa (fenced_read {l = l} f load) = absurd (no_reader l load)
  write_pair a sa (fenced_write f) = inl (inl (fenced sa f))

  module _ (fits : FitsPriors events e cell) where
    not_known : (a : ℕ) → (a ≡ e.from → ⊥) → Known a → Reach events cell e.from a → ⊥
    not_known a differ (inl p) r = fits.prior a differ p r
    not_known a differ (inr (inl same)) r = differ same
    not_known a differ (inr (inr s)) r = reach_irreflexive events c cell e.from (reach_join events c cell e.from a e.from r s)

    old_first : (a b : ℕ) → MustPrecede (events ++ e ∷ []) cell a b → IsStore events cell a
    old_first a b m = store_less events (e ∷ []) cell a (first_old events e cell c store loads cell a b m) m.first

    pub from_priors : Fits events e cell
    from_priors = record {
      prior_read = λ a m. not_known a m.differ (read_pair a (old_first a e.from m) m.differ m.cause);
      prior_write = λ a differ m r. elim (write_pair a (old_first a (suc (length events)) m) m.cause) [
        | inl k ↦ not_known a differ k r
        | inr s ↦ fits.prior_seq_cst a differ (new_holds (λ f. stored_cell f.kind ≡ Some cell) m.second) (old_first a (suc (length events)) m) s r
      ];
      ends_chain = λ r b s. fits.ends_chain (new_holds (λ f. (stored_cell f.kind ≡ Some cell) × (loaded_cell f.kind ≡ Some cell) × (f.from ≡ e.from)) r).0 b s;
      seq_cst_read = λ a s. elim (fits.seq_cst_read a s) [
        | inl same ↦ inl same
        | inr n ↦ inr (n.0, (λ h. n.1 (hb_less events (e ∷ []) reads e.from a (omega (arith, s.before.earlier)) h)))
      ];
    }

pub read_fits_priors : ReadFitsPriors
read_fits_priors events e cell c store loads = (
  (λ all. to_priors events e cell c store loads (lawful_fits events e cell c store loads all)),
  (λ fits. fits_lawful events e cell c store loads (from_priors events e cell c store loads fits)),
)
