-- A further event with its links keeps a graph in agreement with the events.
use Rattle.std.proofs.Common.{◌≡◌, ℕ, zero, suc, ◌<◌, ◌≤◌, ◌&&◌, nat_eq, if◌then◌else◌, Bool, true, false, List, [], ◌∷◌, ◌++◌, Option, Some, None, slice_get, length, refl, sym, ap, ◌∙◌, subst, arith, ◌⊎◌, inl, inr}
use Rattle.std.proofs.lemmas.Bool.{eqb-true}
use Rattle.std.proofs.lemmas.List.{length-append}
use native.Mathlib.Decide.{ℕ_discrete}
use mathlib.Core.Logic.{dite}
use Rattle.c11_events.specs.declared.event.Event.{Event}
use Rattle.c11_events.specs.Events.{At, event_at, IsStore, IsRmw, stored_cell, loaded_cell}
use Rattle.c11_events.specs.HappensBefore.{SeqCstBefore, ProgramOrder}
use Rattle.c11_events.specs.HappensBefore as sequence
use Rattle.c11_events.specs.Chains.{IsRanked, MustPrecede, Links, Reach, ChainLawful}
use Rattle.c11_events.specs.Priors.{Prior, known_store}
use Rattle.c11_events.specs.Added.{Adds, PriorWrite}
use Rattle.c11_events.proofs.Adding.{event_adds, reach_stays}
use Rattle.c11_events.proofs.DecideEvents.{at_below}
use Rattle.c11_events.proofs.Longer.{new_is, old_or_new, store_cell, cause_below}
use Rattle.c11_events.proofs.Prefix.{same_more, same_less, store_more, store_less, rmw_more}
use Rattle.c11_events.proofs.Ranks.{placed, ranked_same, ranked_one}
use Rattle.c11_events.proofs.Reaches.{reach_join, reach_irreflexive, must_reach}
use Rattle.c11_mograph.specs.Made as made
use Rattle.c11_mograph.specs.Made.{Store, Pair, Made, IsAdded, GoesOn, Chain, next, IsPair, Ordered, OfOneCell, CanAdd, with_pairs, with_store, previous, list_of, or_else, pairs_into}
use Rattle.c11_mograph.specs.Words as words
use Rattle.c11_mograph.specs.Words.{Words, WellMade}
use Rattle.c11_mograph.proofs.Chains.{added_more, added_last, added_cases, chain_more}
use Rattle.c11_mograph.proofs.Orders.{pair_cases, pair_more, pair_behind, into_cases, into_has, fits_ordered}
use Rattle.c11_mayread.specs.Priors.{In, PriorTo, prior, seq_cst, ArePriors}
use Rattle.c11_mayread.proofs.Knowing.{of_own}
use Rattle.c11_mayread.specs.Agreement.{after_of, IsStoreAs, Agrees}
use Rattle.c11_mayread.proofs.Agreeing.{Within, goes_rmw, within_reach, agrees_within, added_of_cell, reach_made, made_join, pair_reach, reach_more, after_is, after_no}

-- the last store of a cell by a thread is one of these
pub previous_is : (stores : List Store) (cell thread p : ℕ) → previous stores cell thread ≡ Some p → IsAdded stores p (λ s. (s.cell ≡ cell) × (s.thread ≡ thread))
previous_is [] cell thread p is = cc
previous_is (s ∷ ss) cell thread p is = by_rest (previous ss cell thread) refl is (λ rest. previous_is ss cell thread p rest)
  where
    here : (s.cell ≡ cell) × (s.thread ≡ thread) → s.number ≡ p → IsAdded (s ∷ ss) p (λ t. (t.cell ≡ cell) × (t.thread ≡ thread))
    here own number = record { place = zero; store = s; is = refl; number = number; holds = own }

    by_own : (b d : Bool) → nat_eq s.cell cell ≡ b → nat_eq s.thread thread ≡ d → (if (b && d) then Some s.number else None) ≡ Some p → IsAdded (s ∷ ss) p (λ t. (t.cell ≡ cell) × (t.thread ≡ thread))
    by_own true true b d e = here (eqb-true s.cell cell b, eqb-true s.thread thread d) (let same : s.number ≡ p = cc in same)
    by_own true false b d e = cc
    by_own false d b e e' = cc

    by_rest : (o : Option ℕ) → previous ss cell thread ≡ o → or_else o (if (nat_eq s.cell cell && nat_eq s.thread thread) then Some s.number else None) ≡ Some p
        → (previous ss cell thread ≡ Some p → IsAdded ss p (λ t. (t.cell ≡ cell) × (t.thread ≡ thread))) → IsAdded (s ∷ ss) p (λ t. (t.cell ≡ cell) × (t.thread ≡ thread))
    by_rest (Some q) rest e deeper = let t = deeper (rest ∙ e) in record { place = suc t.place; store = t.store; is = t.is; number = t.number; holds = t.holds }
    by_rest None rest e deeper = by_own (nat_eq s.cell cell) (nat_eq s.thread thread) refl refl e

pub chain_of : (w : Words) (m : Made) → words.StandsFor w m → (x : ℕ) (P : Store → Type 0) → IsAdded m.stores x P → (h : ℕ) × ((i : ℕ) × Chain m.stores h i x)
chain_of w m stands x P t = let k = stands.each t.place t.store t.is in (k.head, (k.kept.rank, subst (λ (z : ℕ). Chain m.stores k.head k.kept.rank z) t.number k.chain))

module _ (events : List Event) (e : Event) (c : ChainLawful events) (all : ChainLawful (events ++ e ∷ [])) where
  abbrev longer : List Event
  longer = events ++ e ∷ []

  abbrev new : ℕ
  new = suc (length events)

  reads_store : (cell : ℕ) → loaded_cell e.kind ≡ Some cell → IsStore events cell e.from
  reads_store cell loads =
      let r = all.reads cell new e.from (record { event = e; is = new_is events e; holds = (loads, refl) }) in
      store_less events (e ∷ []) cell e.from (omega (arith, r.1)) r.0

  adds : Adds events e
  adds = event_adds events e c reads_store

  reach_on : (cell a b : ℕ) → Reach events cell a b → Reach longer cell a b
  reach_on cell a b r = (reach_stays events (e ∷ []) cell).reached a b r

  pub within_longer : (m : Made) → Within m events → Within m longer
  within_longer m w = record {
    stores = λ x s t. same_more events (e ∷ []) x (λ f. IsStoreAs x f s) (w.stores x s t);
    pairs = λ a b p. let r = w.pairs a b p in (r.0, reach_on r.0 a b r.1);
  }

  -- the members of the list other than x are reached to x
  abbrev pub Before : ℕ → List ℕ → ℕ → Type 0
  Before cell list x = (p : ℕ) → In list p → (p ≡ x → ⊥) → Reach longer cell p x

  -- what must precede may be linked
  pub can_order : (m : Made) → WellMade m → Within m longer → (cell : ℕ) (list : List ℕ) (x : ℕ) → IsStore longer cell x → Before cell list x → Ordered (with_pairs m list x)
  can_order m well w cell list x s before = fits_ordered m well list x (λ p among other r.
      let back = within_reach m longer all.reads w cell x p r s in
      reach_irreflexive longer all cell x (reach_join longer all cell x p x back (before p (among.place, among.is) other)))

  pub within_ordered : (m : Made) → Within m longer → (cell : ℕ) (list : List ℕ) (x : ℕ) → Before cell list x → Within (with_pairs m list x) longer
  within_ordered m w cell list x before = record {
    stores = w.stores;
    pairs = λ a b p. elim (pair_cases m.pairs (pairs_into list x) a b p) [
      | inl old ↦ w.pairs a b old
      | inr into ↦ (let q = into_cases list x a b into in (cell, subst (λ (z : ℕ). Reach longer cell a z) (sym q.0) (before a (q.1.1.place, q.1.1.is) q.1.0)))
    ];
  }

  pub one_cell : (m : Made) (cell : ℕ) (list : List ℕ) (x : ℕ) → ((p : ℕ) → In list p → IsAdded m.stores p (λ s. s.cell ≡ cell)) → IsAdded m.stores x (λ s. s.cell ≡ cell) → OfOneCell m.stores list x
  one_cell m cell list x members is i p at =
      let t = members p (i, at) in
      record { place = t.place; store = t.store; is = t.is; number = t.number; holds = record { place = is.place; store = is.store; is = is.is; number = is.number; holds = t.holds ∙ sym is.holds } }

  -- a prior store reaches x in a graph that has the old one and the links from the list to x
  module _ (m n : Made) (well : WellMade m) (agrees : Agrees m events) (n_well : WellMade n) (stays : (a b : ℕ) → made.Reach m a b → made.Reach n a b)
      (cell : ℕ) (list : List ℕ) (stores : Bool) (priors : ArePriors events e cell stores list) (x : ℕ) (linked : (p : ℕ) → In list p → (p ≡ x) ⊎ made.Reach n p x) where
    pub prior_reaches : (a : ℕ) → PriorTo events e cell stores a → (a ≡ x) ⊎ made.Reach n a x
    prior_reaches a p =
        let t = priors.all a p in
        elim t.1.1 [
          | inl same ↦ subst (λ (z : ℕ). (z ≡ x) ⊎ made.Reach n z x) (sym same) (linked t.0 t.1.0)
          | inr must ↦ (let first = stays a t.0 (agrees.must cell a t.0 must) in
              inr (elim (linked t.0 t.1.0) [ inl same ↦ subst (λ (z : ℕ). made.Reach n a z) same first | inr second ↦ made_join n n_well a t.0 x first second ]))
        ]

  old_must : (m n : Made) → Agrees m events → ((a b : ℕ) → made.Reach m a b → made.Reach n a b) → (cell a b : ℕ) → b ≤ length events → ((loaded_cell e.kind ≡ Some cell) × (b ≡ e.from) → ⊥)
      → MustPrecede longer cell a b → made.Reach n a b
  old_must m n agrees stays cell a b le apart must = stays a b (agrees.must cell a b (adds.old cell a b le apart must))

  -- an event that uses no atomic cell
  module _ (m : Made) (agrees : Agrees m events) (no_store : stored_cell e.kind ≡ None) where
    pub old_store : (x : ℕ) (s : Store) → At longer x (λ f. IsStoreAs x f s) → At events x (λ f. IsStoreAs x f s)
    old_store x s t = elim (old_or_new events e x (λ f. IsStoreAs x f s) t) [
      | inl le ↦ same_less events (e ∷ []) x (λ f. IsStoreAs x f s) le t
      | inr p ↦ absurd (let clash : None ≡ Some s.cell = sym no_store ∙ p.1.cell in cc)
    ]

    pub below : (cell a b : ℕ) → MustPrecede longer cell a b → b ≤ length events
    below cell a b must = elim (old_or_new events e b (λ f. stored_cell f.kind ≡ Some cell) must.second) [
      | inl le ↦ le
      | inr p ↦ absurd (let clash : None ≡ Some cell = sym no_store ∙ p.1 in cc)
    ]

    pub nothing_agrees : loaded_cell e.kind ≡ None → Agrees m longer
    nothing_agrees no_load = record {
      stores = λ x s. ((λ t. same_more events (e ∷ []) x (λ f. IsStoreAs x f s) ((agrees.stores x s).0 t)), (λ t. (agrees.stores x s).1 (old_store x s t)));
      must = λ cell a b must. old_must m m agrees (λ a' b' r. r) cell a b (below cell a b must) (λ p. let clash : None ≡ Some cell = sym no_load ∙ p.0 in cc) must;
      pairs = (within_longer m (record { stores = λ x s. (agrees.stores x s).0; pairs = agrees.pairs })).pairs;
    }

  -- a load, without or with a store
  module _ (m : Made) (well : WellMade m) (agrees : Agrees m events) (cell : ℕ) (loads : loaded_cell e.kind ≡ Some cell) (list : List ℕ) (stores : Bool) (priors : ArePriors events e cell stores list)
      (stored : stores ≡ true → stored_cell e.kind ≡ Some cell) where
    abbrev pub n : Made
    n = with_pairs m list e.from

    from_store : IsStore events cell e.from
    from_store = reads_store cell loads

    new_rmw : stored_cell e.kind ≡ Some cell → IsRmw longer cell new e.from
    new_rmw is = record { event = e; is = new_is events e; holds = (is, loads, refl) }

    -- what is reached to the new event is reached to what it reads, or is that
    before_from : stored_cell e.kind ≡ Some cell → (a : ℕ) → (a ≡ e.from → ⊥) → Reach longer cell a new → Reach longer cell a e.from
    before_from is a differ r =
        let mine = placed events cell c.reads e.from from_store in
        let here : IsRanked longer cell mine.0 mine.1.0 e.from = (reach_stays events (e ∷ []) cell).ranked mine.0 mine.1.0 e.from mine.1.1 in
        let last : IsRanked longer cell mine.0 (suc mine.1.0) new = record { chain = sequence.next here.chain (new_rmw is); first = here.first } in
        let both = ranked_same longer cell r.k mine.0 r.j (suc mine.1.0) new r.second last in
        record {
          h = r.h;
          k = mine.0;
          i = r.i;
          j = mine.1.0;
          first = r.first;
          second = here;
          leads = elim r.leads [
            | inl p ↦ inl ((λ same. p.0 (same ∙ sym both.0)), subst (λ (z : ℕ). Links longer cell r.h z) both.0 p.1)
            | inr p ↦ (
                let same : r.h ≡ mine.0 = p.0 ∙ both.0 in
                let apart : r.i ≡ mine.1.0 → ⊥ = λ e'. differ (ranked_one longer cell (all.once cell) mine.0 mine.1.0 a e.from
                (subst (λ (z : ℕ). IsRanked longer cell mine.0 z a) e' (subst (λ (z : ℕ). IsRanked longer cell z r.i a) same r.first)) here) in
                inr (same, omega (arith, p.1, both.1)))
          ];
        }

    prior_before : (a : ℕ) → PriorTo events e cell stores a → (a ≡ e.from → ⊥) → Reach longer cell a e.from
    prior_before a (prior p) differ = must_reach longer all cell a e.from (adds.prior_read cell a loads differ p)
    prior_before a (seq_cst is s b) differ = before_from (stored is) a differ (must_reach longer all cell a new (adds.prior_write cell a (stored is) (inr (s, b))))

    pub load_before : Before cell list e.from
    load_before p i differ = prior_before p (priors.only p i) differ

    prior_store : (a : ℕ) → PriorTo events e cell stores a → IsStore events cell a
    prior_store a (prior (Rattle.c11_events.specs.Priors.known_store s k)) = s
    prior_store a (prior (Rattle.c11_events.specs.Priors.known_load {l = l} load k)) = (c.reads cell l a load).0
    prior_store a (prior (Rattle.c11_events.specs.Priors.fenced s f)) = s
    prior_store a (seq_cst is s b) = s

    pub load_one_cell : OfOneCell m.stores list e.from
    load_one_cell = one_cell m cell list e.from (λ p i. added_of_cell m events well agrees cell p (prior_store p (priors.only p i))) (added_of_cell m events well agrees cell e.from from_store)

    pub load_within : Within n longer
    load_within = within_ordered m (within_longer m (agrees_within m events well agrees)) cell list e.from load_before

    pub load_ordered : Ordered n
    load_ordered = can_order m well (within_longer m (agrees_within m events well agrees)) cell list e.from (store_more events (e ∷ []) cell e.from from_store) load_before

    pub stays : (a b : ℕ) → made.Reach m a b → made.Reach n a b
    stays = reach_more m n (λ h i x k. k) (λ a b p. pair_more m.pairs (pairs_into list e.from) a b p)

    module _ (w : Words) (stands : words.StandsFor w n) where
      linked : (p : ℕ) → In list p → (p ≡ e.from) ⊎ made.Reach n p e.from
      linked p i = dite (ℕ_discrete p e.from) (λ (same : p ≡ e.from). inl same)
          (λ (differ : p ≡ e.from → ⊥).
          let hp = chain_of w n stands p (λ s. s.cell ≡ cell) (added_of_cell m events well agrees cell p (prior_store p (priors.only p i))) in
          let hx = chain_of w n stands e.from (λ s. s.cell ≡ cell) (added_of_cell m events well agrees cell e.from from_store) in
          inr (pair_reach n stands.well p e.from hp.0 hp.1.0 hx.0 hx.1.0 (pair_behind m.pairs (pairs_into list e.from) p e.from (into_has list e.from p (record { place = i.0; is = i.1 }) differ)) differ hp.1.1 hx.1.1))

      pub load_prior : (a : ℕ) → PriorTo events e cell stores a → (a ≡ e.from) ⊎ made.Reach n a e.from
      load_prior = prior_reaches m n well agrees stands.well stays cell list stores priors e.from linked

      -- what must precede an earlier store is reached
      pub load_must : (d a b : ℕ) → b ≤ length events → MustPrecede longer d a b → made.Reach n a b
      load_must d a b le must = dite (ℕ_discrete d cell)
          (λ (same : d ≡ cell). dite (ℕ_discrete b e.from)
          (λ (is : b ≡ e.from).
          let must' : MustPrecede longer cell a e.from = subst (λ (z : ℕ). MustPrecede longer cell a z) is (subst (λ (k : ℕ). MustPrecede longer k a b) same must) in
          subst (λ (z : ℕ). made.Reach n a z) (sym is) (elim (adds.read cell a loads must') [
            | inl p ↦ elim (load_prior a (prior p)) [ inl e' ↦ absurd (must'.differ e') | inr r ↦ r ]
            | inr r ↦ stays a e.from (reach_made m events well agrees cell a e.from r)
          ]))
          (λ (other : b ≡ e.from → ⊥). old_must m n agrees stays d a b le (λ p. other p.1) must))
          (λ (other : d ≡ cell → ⊥). old_must m n agrees stays d a b le (λ p. let both : Some d ≡ Some cell = sym p.0 ∙ loads in let same : d ≡ cell = cc in other same) must)

      pub load_agrees : stored_cell e.kind ≡ None → Agrees n longer
      load_agrees no_store = record {
        stores = λ x s. (load_within.stores x s, (λ t. (agrees.stores x s).1 (old_store m agrees no_store x s t)));
        must = λ d a b must. load_must d a b (below m agrees no_store d a b must) must;
        pairs = load_within.pairs;
      }

  -- a graph with a further store, of the event
  module _ (number : e.number ≡ new) (cell : ℕ) (is : stored_cell e.kind ≡ Some cell) (after : Option ℕ) (after_as : after ≡ after_of e) (m : Made) (within : Within m longer)
      (old : (x : ℕ) (s : Store) → IsAdded m.stores x (λ t. t ≡ s) → At events x (λ f. IsStoreAs x f s)) where
    abbrev pub added : Store
    added = record { cell = cell; number = e.number; thread = e.thread; after = after }

    abbrev pub with_added : Made
    with_added = with_store m added

    abbrev prev : List ℕ
    prev = list_of (previous m.stores cell e.thread)

    pub larger : (place : ℕ) (t : Store) → slice_get m.stores place ≡ Some t → t.number < e.number
    larger place t at =
        let u = old t.number t (record { place = place; store = t; is = at; number = refl; holds = refl }) in
        let lt = at_below events t.number (λ f. IsStoreAs t.number f t) u in
        omega arith

    previous_of : (o : Option ℕ) → previous m.stores cell e.thread ≡ o → (p : ℕ) → In (list_of o) p → IsStore events cell p × At events p (λ f. f.thread ≡ e.thread)
    previous_of None e' p i = let at = i.1 in cc
    previous_of (Some q) e' p i =
        let same : q ≡ p = one_of i.0 i.1 in
        let t = previous_is m.stores cell e.thread p (e' ∙ ap (λ (k : ℕ). Some k) same) in
        let u = old p t.store (record { place = t.place; store = t.store; is = t.is; number = t.number; holds = refl }) in
        (record { event = u.event; is = u.is; holds = u.holds.cell ∙ ap (λ (k : ℕ). Some k) t.holds.0 }, record { event = u.event; is = u.is; holds = sym u.holds.thread ∙ t.holds.1 })
      where
        one_of : (place : ℕ) → slice_get (q ∷ []) place ≡ Some p → q ≡ p
        one_of zero at = cc
        one_of (suc place) at = cc

    program : (p : ℕ) → At events p (λ f. f.thread ≡ e.thread) → ProgramOrder longer p new
    program p t = of_own events e p t

    pub known_previous : (p : ℕ) → In prev p → Prior events e cell p
    known_previous p i = let t = previous_of (previous m.stores cell e.thread) refl p i in known_store t.0 (record { m = p; last = inl (program p t.1); leads = inl refl })

    before_added : Before cell prev e.number
    before_added p i differ = subst (λ (z : ℕ). Reach longer cell p z) (sym number) (must_reach longer all cell p new (adds.prior_write cell p is (inl (known_previous p i))))

    plain_within : Within (record m { stores = m.stores ++ added ∷ [] }) longer
    plain_within = record {
      stores = λ x s t. elim (added_cases m.stores added x (λ u. u ≡ s) t) [
        | inl old' ↦ within.stores x s old'
        | inr new' ↦ subst (λ (z : ℕ). At longer z (λ f. IsStoreAs z f s)) (sym number ∙ new'.0)
            (record { event = e; is = new_is events e; holds = subst (λ (u : Store). IsStoreAs new e u) new'.1 (record { cell = is; number = number; thread = refl; after = after_as }) })
      ];
      pairs = within.pairs;
    }

    pub added_within : Within with_added longer
    added_within = within_ordered (record m { stores = m.stores ++ added ∷ [] }) plain_within cell prev e.number before_added

    pub added_chain : (h i x : ℕ) → Chain m.stores h i x → Chain (m.stores ++ added ∷ []) h i x
    added_chain = chain_more m.stores added

    pub added_stays : (a b : ℕ) → made.Reach m a b → made.Reach with_added a b
    added_stays = reach_more m with_added added_chain (λ a b p. pair_more m.pairs (pairs_into prev e.number) a b p)

    pub added_is : IsAdded with_added.stores e.number (λ t. t ≡ added)
    added_is = added_last m.stores added (λ t. t ≡ added) refl

    pub has_all : ((x : ℕ) (s : Store) → At events x (λ f. IsStoreAs x f s) → IsAdded m.stores x (λ t. t ≡ s)) → (x : ℕ) (s : Store) → At longer x (λ f. IsStoreAs x f s) → IsAdded with_added.stores x (λ t. t ≡ s)
    has_all has x s t = elim (old_or_new events e x (λ f. IsStoreAs x f s) t) [
      | inl le ↦ added_more m.stores added x (λ u. u ≡ s) (has x s (same_less events (e ∷ []) x (λ f. IsStoreAs x f s) le t))
      | inr p ↦ (
          let cells : Some cell ≡ Some s.cell = sym is ∙ p.1.cell in
          let same_cell : cell ≡ s.cell = cc in
          let same_number : e.number ≡ s.number = number ∙ (sym p.0 ∙ sym p.1.number) in
          let same : added ≡ s = λ i. record { cell = same_cell i; number = same_number i; thread = (sym p.1.thread) i; after = (after_as ∙ sym p.1.after) i } in
          subst (λ (z : ℕ). IsAdded (m.stores ++ added ∷ []) z (λ u. u ≡ s)) (number ∙ sym p.0) (added_last m.stores added (λ u. u ≡ s) same))
    ]

    pub new_cell : (d a : ℕ) → MustPrecede longer d a new → d ≡ cell
    new_cell d a must = elim (old_or_new events e new (λ f. stored_cell f.kind ≡ Some d) must.second) [
      | inl le ↦ absurd (omega arith)
      | inr p ↦ let both : Some d ≡ Some cell = sym p.1 ∙ is in let same : d ≡ cell = cc in same
    ]

    -- by whether the later store is the new one
    pub by_later : (d a b : ℕ) (K : Type 0) → MustPrecede longer d a b → (b ≤ length events → K) → (b ≡ new → K) → K
    by_later d a b K must old' new' = elim (old_or_new events e b (λ f. stored_cell f.kind ≡ Some d) must.second) [ inl le ↦ old' le | inr p ↦ new' p.0 ]

  -- a store that reads nothing
  module _ (number : e.number ≡ new) (m : Made) (well : WellMade m) (agrees : Agrees m events) (cell : ℕ) (is : stored_cell e.kind ≡ Some cell) (none : loaded_cell e.kind ≡ None)
      (list : List ℕ) (priors : ArePriors events e cell true list) where
    pub old_stores : (x : ℕ) (s : Store) → IsAdded m.stores x (λ t. t ≡ s) → At events x (λ f. IsStoreAs x f s)
    old_stores x s = (agrees.stores x s).0

    pub m_within : Within m longer
    m_within = within_longer m (agrees_within m events well agrees)

    abbrev pub store_made : Made
    store_made = with_added number cell is None (sym (after_no e none)) m m_within old_stores

    pub store_can : CanAdd m (added number cell is None (sym (after_no e none)) m m_within old_stores)
    store_can = record { positive = omega (arith, number); larger = larger number cell is None (sym (after_no e none)) m m_within old_stores; goes_on = λ y after. let clash : None ≡ Some y = after in cc }

    s_within : Within store_made longer
    s_within = added_within number cell is None (sym (after_no e none)) m m_within old_stores

    write_of : (a : ℕ) → PriorTo events e cell true a → PriorWrite events e cell a
    write_of a (prior p) = inl p
    write_of a (seq_cst is' s b) = inr (s, b)

    to_write : (a : ℕ) → PriorWrite events e cell a → PriorTo events e cell true a
    to_write a (inl p) = prior p
    to_write a (inr q) = seq_cst refl q.0 q.1

    pub store_before : Before cell list e.number
    store_before p i differ = subst (λ (z : ℕ). Reach longer cell p z) (sym number) (must_reach longer all cell p new (adds.prior_write cell p is (write_of p (priors.only p i))))

    old_priors : (p : ℕ) → In list p → IsStore events cell p
    old_priors p i = first_old p (adds.prior_write cell p is (write_of p (priors.only p i)))
      where
        first_old : (a : ℕ) → MustPrecede longer cell a new → IsStore events cell a
        first_old a must = store_less events (e ∷ []) cell a (omega (arith, cause_below longer cell a new all.reads must.second must.cause, length-append events (e ∷ []))) must.first

    member : (p : ℕ) → In list p → IsAdded store_made.stores p (λ s. s.cell ≡ cell)
    member p i = added_more m.stores (added number cell is None (sym (after_no e none)) m m_within old_stores) p (λ s. s.cell ≡ cell) (added_of_cell m events well agrees cell p (old_priors p i))

    here_is : IsAdded store_made.stores e.number (λ s. s.cell ≡ cell)
    here_is = added_last m.stores (added number cell is None (sym (after_no e none)) m m_within old_stores) (λ s. s.cell ≡ cell) refl

    pub store_one_cell : OfOneCell store_made.stores list e.number
    store_one_cell = one_cell store_made cell list e.number member here_is

    pub store_ordered : WellMade store_made → Ordered (with_pairs store_made list e.number)
    store_ordered well' = can_order store_made well' s_within cell list e.number (record { event = e; is = ap (λ (z : ℕ). event_at longer z) number ∙ new_is events e; holds = is }) store_before

    abbrev pub store_linked : Made
    store_linked = with_pairs store_made list e.number

    l_within : Within store_linked longer
    l_within = within_ordered store_made s_within cell list e.number store_before

    l_stays : (a b : ℕ) → made.Reach m a b → made.Reach store_linked a b
    l_stays a b r = reach_more store_made store_linked (λ h i x k. k) (λ a b p. pair_more store_made.pairs (pairs_into list e.number) a b p) a b
        (added_stays number cell is None (sym (after_no e none)) m m_within old_stores a b r)

    module _ (w : Words) (stands : words.StandsFor w store_linked) where
      s_linked : (p : ℕ) → In list p → (p ≡ e.number) ⊎ made.Reach store_linked p e.number
      s_linked p i = dite (ℕ_discrete p e.number) (λ (same : p ≡ e.number). inl same)
          (λ (differ : p ≡ e.number → ⊥).
          let hp = chain_of w store_linked stands p (λ s. s.cell ≡ cell) (member p i) in
          let hx = chain_of w store_linked stands e.number (λ s. s.cell ≡ cell) here_is in
          inr (pair_reach store_linked stands.well p e.number hp.0 hp.1.0 hx.0 hx.1.0
          (pair_behind store_made.pairs (pairs_into list e.number) p e.number (into_has list e.number p (record { place = i.0; is = i.1 }) differ)) differ hp.1.1 hx.1.1))

      s_prior : (a : ℕ) → PriorTo events e cell true a → (a ≡ e.number) ⊎ made.Reach store_linked a e.number
      s_prior = prior_reaches m store_linked well agrees stands.well l_stays cell list true priors e.number s_linked

      s_written : (d a : ℕ) → MustPrecede longer d a new → made.Reach store_linked a new
      s_written d a must =
          let same = new_cell number cell is None (sym (after_no e none)) m m_within old_stores d a must in
          let must' : MustPrecede longer cell a new = subst (λ (k : ℕ). MustPrecede longer k a new) same must in
          elim (adds.written cell a must') [
            | inl p ↦ elim (s_prior a (to_write a p)) [
              | inl e' ↦ absurd (must'.differ (e' ∙ number))
              | inr r ↦ subst (λ (z : ℕ). made.Reach store_linked a z) number r
            ]
            | inr q ↦ absurd (let clash : None ≡ Some cell = sym none ∙ q.0 in cc)
          ]

      pub store_agrees : Agrees store_linked longer
      store_agrees = record {
        stores = λ x s. (l_within.stores x s, has_all number cell is None (sym (after_no e none)) m m_within old_stores (λ x' s' t. (agrees.stores x' s').1 t) x s);
        must = λ d a b must. by_later number cell is None (sym (after_no e none)) m m_within old_stores d a b (made.Reach store_linked a b) must
            (λ le. old_must m store_linked agrees l_stays d a b le (λ p. let clash : None ≡ Some d = sym none ∙ p.0 in cc) must)
            (λ e'. subst (λ (z : ℕ). made.Reach store_linked a z) (sym e') (s_written d a (subst (λ (z : ℕ). MustPrecede longer d a z) e' must)));
        pairs = l_within.pairs;
      }

  -- a read-modify-write
  module _ (number : e.number ≡ new) (m : Made) (well : WellMade m) (agrees : Agrees m events) (cell : ℕ) (is : stored_cell e.kind ≡ Some cell) (loads : loaded_cell e.kind ≡ Some cell)
      (list : List ℕ) (priors : ArePriors events e cell true list) where
    abbrev pub read_made : Made
    read_made = n m well agrees cell loads list true priors (λ _. is)

    pub r_within : Within read_made longer
    r_within = load_within m well agrees cell loads list true priors (λ _. is)

    pub r_old : (x : ℕ) (s : Store) → IsAdded read_made.stores x (λ t. t ≡ s) → At events x (λ f. IsStoreAs x f s)
    r_old x s = (agrees.stores x s).0

    abbrev pub both_made : Made
    both_made = with_added number cell is (Some e.from) (sym (after_is e cell loads)) read_made r_within r_old

    r_before : Before cell (list_of (previous read_made.stores cell e.thread)) e.from
    r_before p i differ = must_reach longer all cell p e.from (adds.prior_read cell p loads differ (known_previous number cell is (Some e.from) (sym (after_is e cell loads)) read_made r_within r_old p i))

    from_is : IsStore events cell e.from
    from_is = reads_store cell loads

    nothing_goes_on : (b : ℕ) → GoesOn read_made.stores b e.from → ⊥
    nothing_goes_on b g =
        let r = goes_rmw m events c.reads (agrees_within m events well agrees) b e.from g in
        let r' : IsRmw longer r.0 b e.from = rmw_more events (e ∷ []) r.0 b e.from r.1 in
        let d = store_cell events e.from r.0 cell (c.reads r.0 b e.from (record { event = r.1.event; is = r.1.is; holds = (r.1.holds.1, r.1.holds.2) })).0 from_is in
        let same = all.once cell b new e.from (subst (λ (k : ℕ). IsRmw longer k b e.from) d r') (record { event = e; is = new_is events e; holds = (is, loads, refl) }) in
        let lt = at_below events b (λ f. (stored_cell f.kind ≡ Some r.0) × (loaded_cell f.kind ≡ Some r.0) × (f.from ≡ e.from)) r.1 in
        omega arith

    pub both_can : WellMade read_made → CanAdd read_made (added number cell is (Some e.from) (sym (after_is e cell loads)) read_made r_within r_old)
    both_can well' = record {
      positive = omega (arith, number);
      larger = larger number cell is (Some e.from) (sym (after_is e cell loads)) read_made r_within r_old;
      goes_on = λ y after. let both : Some e.from ≡ Some y = after in let same : e.from ≡ y = cc in
          subst (λ (z : ℕ). made.GoesOnFrom read_made (added number cell is (Some e.from) (sym (after_is e cell loads)) read_made r_within r_old) z) same (record {
            of_cell = added_of_cell m events well agrees cell e.from from_is;
            last = nothing_goes_on;
            ordered = can_order read_made well' r_within cell (list_of (previous read_made.stores cell e.thread)) e.from (store_more events (e ∷ []) cell e.from from_is) r_before;
          });
    }

    b_within : Within both_made longer
    b_within = added_within number cell is (Some e.from) (sym (after_is e cell loads)) read_made r_within r_old

    b_stays : (a b : ℕ) → made.Reach read_made a b → made.Reach both_made a b
    b_stays = added_stays number cell is (Some e.from) (sym (after_is e cell loads)) read_made r_within r_old

    module _ (w : Words) (stands : words.StandsFor w read_made) (v : Words) (stands' : words.StandsFor v both_made) where
      -- the new store is reached from what it reads
      from_new : made.Reach both_made e.from new
      from_new =
          let k = chain_of w read_made stands e.from (λ s. s.cell ≡ cell) (added_of_cell m events well agrees cell e.from from_is) in
          let first = added_chain number cell is (Some e.from) (sym (after_is e cell loads)) read_made r_within r_old k.0 k.1.0 e.from k.1.1 in
          let goes : GoesOn both_made.stores e.number e.from = added_last read_made.stores (added number cell is (Some e.from) (sym (after_is e cell loads)) read_made r_within r_old) (λ s. s.after ≡ Some e.from) refl in
          subst (λ (z : ℕ). made.Reach both_made e.from z) number (record { h = k.0; k = k.0; i = k.1.0; j = suc k.1.0; first = first; second = next first goes; leads = inr (refl, omega arith) })

      to_new : (a : ℕ) → (a ≡ e.from) ⊎ made.Reach read_made a e.from → made.Reach both_made a new
      to_new a (inl same) = subst (λ (z : ℕ). made.Reach both_made z new) (sym same) from_new
      to_new a (inr r) = made_join both_made stands'.well a e.from new (b_stays a e.from r) from_new

      b_prior : (a : ℕ) → PriorTo events e cell true a → (a ≡ e.from) ⊎ made.Reach read_made a e.from
      b_prior = load_prior m well agrees cell loads list true priors (λ _. is) w stands

      prior_of : (a : ℕ) → PriorWrite events e cell a → PriorTo events e cell true a
      prior_of a (inl p) = prior p
      prior_of a (inr q) = seq_cst refl q.0 q.1

      b_written : (d a : ℕ) → MustPrecede longer d a new → made.Reach both_made a new
      b_written d a must =
          let same = new_cell number cell is (Some e.from) (sym (after_is e cell loads)) read_made r_within r_old d a must in
          let must' : MustPrecede longer cell a new = subst (λ (k : ℕ). MustPrecede longer k a new) same must in
          elim (adds.written cell a must') [
            | inl p ↦ to_new a (b_prior a (prior_of a p))
            | inr q ↦ to_new a (elim q.1 [ inl e' ↦ inl e' | inr r ↦ inr (stays m well agrees cell loads list true priors (λ _. is) a e.from (reach_made m events well agrees cell a e.from r)) ])
          ]

      pub both_agrees : Agrees both_made longer
      both_agrees = record {
        stores = λ x s. (b_within.stores x s, has_all number cell is (Some e.from) (sym (after_is e cell loads)) read_made r_within r_old (λ x' s' t. (agrees.stores x' s').1 t) x s);
        must = λ d a b must. by_later number cell is (Some e.from) (sym (after_is e cell loads)) read_made r_within r_old d a b (made.Reach both_made a b) must
            (λ le. b_stays a b (load_must m well agrees cell loads list true priors (λ _. is) w stands d a b le must))
            (λ e'. subst (λ (z : ℕ). made.Reach both_made a z) (sym e') (b_written d a (subst (λ (z : ℕ). MustPrecede longer d a z) e' must)));
        pairs = b_within.pairs;
      }
