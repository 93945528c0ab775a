-- Whether a store may be read, by the chains, the priors and the read rule.
use Rattle.std.proofs.Common.{◌≡◌, ℕ, ◌<◌, ◌≤◌, ◌+◌, ◌↔◌, Bool, true, false, IsTrue, if◌then◌else◌, List, [], ◌∷◌, ◌++◌, Some, None, slice_get, length, refl, sym, ap, ◌∙◌, subst, arith, ◌⊎◌, inl, inr}
use Rattle.std.proofs.lemmas.Option.{slice_get_within}
use Rattle.std.specs.Ordering.{int_eq}
use native.Mathlib.Decide.{ℕ_discrete}
use mathlib.Core.Logic.{dite}
use Rattle.c11_num.specs.declared.kind.RmwKind.TheVariants.{Exchange}
use Rattle.c11_num.specs.Ranges.{TypedNumber}
use Rattle.c11_events.specs.declared.event.Event.{Event}
use Rattle.c11_events.specs.declared.event.EventKind.{EventKind}
use Rattle.c11_events.specs.declared.event.EventKind.TheVariants.{AtomicLoad, Rmw}
use Rattle.c11_events.specs.declared.op.Op.{Op}
use Rattle.c11_events.specs.declared.op.Op.TheVariants as op
use Rattle.c11_events.specs.declared.order.Order.{Order}
use Rattle.c11_events.specs.Events.{IsStore, IsRmw, stored_cell, loaded_cell, is_seq_cst, is_seq_cst_order}
use Rattle.c11_events.specs.Chains.{Reach, ChainLawful}
use Rattle.c11_events.specs.Priors.{FitsPriors}
use Rattle.c11_events.specs.Values.{value_of}
use Rattle.c11_events.specs.Offered.{op_cell, op_reading, IsRisingList}
use Rattle.c11_events.proofs.Acquiring.{read_fits_priors}
use Rattle.c11_events.proofs.DecideEvents.{at_below}
use Rattle.c11_events.proofs.Longer.{store_cell}
use Rattle.c11_events.proofs.Prefix.{seq_more, seq_less}
use Rattle.c11_events.proofs.Reaches.{reach_join, reach_irreflexive, must_reach}
use Rattle.c11_latest.proofs.Places.{get_last, get_more, old_or_last}
use Rattle.c11_mograph.specs.Made.{Made, GoesOn, Ordered, with_pairs}
use Rattle.c11_mograph.specs.Words as graphs
use Rattle.c11_mograph.proofs.Orders.{fits_ordered, ordered_fits}
use Rattle.c11_scorder.specs.Laws.{LastStoreDecides}
use Rattle.c11_mayread.specs.declared.asked.Asked.{Asked}
use Rattle.c11_mayread.specs.declared.asked.Writes.TheVariants.{Never, Always, Behind}
use Rattle.c11_mayread.specs.Asks.{asked_of, of_order}
use Rattle.c11_mayread.specs.Agreement.{Agrees}
use Rattle.c11_mayread.specs.Choosing.{MayFollow, IsAskedAt, ArePicked}
use Rattle.c11_mayread.specs.Priors.{PriorTo, prior, seq_cst, ArePriors, KeepsReadRule}
use Rattle.c11_mayread.proofs.Agreeing.{agrees_within, within_reach, reach_made, goes_rmw, rmw_goes}

module _ (events : List Event) (c : ChainLawful events) (m : Made) (well : graphs.WellMade m) (agrees : Agrees m events) (cell : ℕ) where
  -- no store that must not follow is reached, where and only where the links from the priors leave all ordered
  module _ (e : Event) (store : IsStore events cell e.from) (stores : Bool) (list : List ℕ) (priors : ArePriors events e cell stores list) where
    abbrev pub NoneReached : Type 0
    NoneReached = (a : ℕ) → (a ≡ e.from → ⊥) → PriorTo events e cell stores a → Reach events cell e.from a → ⊥

    pub ordered_none : Ordered (with_pairs m list e.from) → NoneReached
    ordered_none o a differ p r =
        let t = priors.all a p in
        let on : (a ≡ t.0) ⊎ Reach events cell a t.0 = elim t.1.1 [ inl same ↦ inl same | inr must ↦ inr (must_reach events c cell a t.0 must) ] in
        dite (ℕ_discrete t.0 e.from)
        (λ (same : t.0 ≡ e.from). elim on [
          | inl same' ↦ differ (same' ∙ same)
          | inr r' ↦ reach_irreflexive events c cell e.from (reach_join events c cell e.from a e.from r (subst (λ (z : ℕ). Reach events cell a z) same r'))
        ])
        (λ (other : t.0 ≡ e.from → ⊥).
        let far : Reach events cell e.from t.0 = elim on [
          | inl same' ↦ subst (λ (z : ℕ). Reach events cell e.from z) same' r
          | inr r' ↦ reach_join events c cell e.from a t.0 r r'
        ] in
        ordered_fits m well list e.from o t.0 (record { place = t.1.0.0; is = t.1.0.1 }) other (reach_made m events well agrees cell e.from t.0 far))

    pub none_ordered : NoneReached → Ordered (with_pairs m list e.from)
    none_ordered none = fits_ordered m well list e.from (λ p among other r.
        none p other (priors.only p (among.place, among.is)) (within_reach m events c.reads (agrees_within m events well agrees) cell e.from p r store))

    pub none_reached : (b : Bool) → IsTrue b ↔ Ordered (with_pairs m list e.from) → IsTrue b ↔ NoneReached
    none_reached b h = (λ t. ordered_none (h.0 t), λ none. h.1 (none_ordered none))

  -- no read-modify-write goes on from x
  pub none_goes_on : (x : ℕ) → IsStore events cell x → (b : Bool) → IsTrue b ↔ ((k : ℕ) → GoesOn m.stores k x → ⊥) → IsTrue b ↔ ((k : ℕ) → IsRmw events cell k x → ⊥)
  none_goes_on x s b h = (
    λ t k r. h.0 t k (rmw_goes m events well agrees cell k x r),
    λ none. h.1 (λ k g.
        let r = goes_rmw m events c.reads (agrees_within m events well agrees) k x g in
        let same = store_cell events x r.0 cell (c.reads r.0 k x (record { event = r.1.event; is = r.1.is; holds = (r.1.holds.1, r.1.holds.2) })).0 s in
        none k (subst (λ (d : ℕ). IsRmw events d k x) same r.1)),
  )

-- a read keeps the events chain-lawful where and only where it may follow what it reads and, if it stores, is the only one that does
module _ (decides : LastStoreDecides) (events : List Event) (c : ChainLawful events) (e : Event) (cell : ℕ) (store : IsStore events cell e.from) (loads : loaded_cell e.kind ≡ Some cell)
    (stores : Bool) (stored : stored_cell e.kind ≡ (if stores then Some cell else None)) where
  stored_is : stores ≡ true → stored_cell e.kind ≡ Some cell
  stored_is is = stored ∙ ap (λ (b : Bool). if b then Some cell else None) is

  stores_is : (b : Bool) → stores ≡ b → stored_cell e.kind ≡ Some cell → stores ≡ true
  stores_is true is s = is
  stores_is false is s = let none = stored ∙ ap (λ (b : Bool). if b then Some cell else None) is in let clash : None ≡ Some cell = sym none ∙ s in cc

  pub lawful_follows : ChainLawful (events ++ e ∷ []) → MayFollow events e cell stores × (stores ≡ true → (b : ℕ) → IsRmw events cell b e.from → ⊥)
  lawful_follows all =
      let fits = (read_fits_priors events e cell c store loads).0 all in
      (record { prior = λ a differ p. not_reached fits a differ p; rule = λ sc a last. rule fits sc a last }, λ is b r. fits.ends_chain (stored_is is) b r)
    where
      not_reached : FitsPriors events e cell → (a : ℕ) → (a ≡ e.from → ⊥) → PriorTo events e cell stores a → Reach events cell e.from a → ⊥
      not_reached fits a differ (prior p) = fits.prior a differ p
      not_reached fits a differ (seq_cst is s b) = fits.prior_seq_cst a differ (stored_is is) s b

      rule : FitsPriors events e cell → is_seq_cst e.kind ≡ true → KeepsReadRule events cell e.from
      rule fits sc a last = elim (fits.seq_cst_read a ((decides events e cell a).1 (sc, last))) [
        | inl same ↦ inl same
        | inr n ↦ inr ((λ t. n.0 (seq_more events (e ∷ []) e.from t)), n.1)
      ]

  pub follows_lawful : MayFollow events e cell stores → (stores ≡ true → (b : ℕ) → IsRmw events cell b e.from → ⊥) → ChainLawful (events ++ e ∷ [])
  follows_lawful may ends = (read_fits_priors events e cell c store loads).1 (record {
    prior = λ a differ p. may.prior a differ (prior p);
    prior_seq_cst = λ a differ is s b. may.prior a differ (seq_cst (stores_is stores refl is) s b);
    ends_chain = λ is b r. ends (stores_is stores refl is) b r;
    seq_cst_read = λ a s. let t = (decides events e cell a).0 s in elim (may.rule t.0 a t.1) [
      | inl same ↦ inl same
      | inr n ↦ inr ((λ u. n.0 (seq_less events (e ∷ []) e.from (let lt = at_below events e.from (λ f. stored_cell f.kind ≡ Some cell) store in omega arith) u)), n.1)
    ];
  })

-- what an operation asks for
pub asked_none : (o : Op) → asked_of o ≡ None → op_cell o ≡ None
asked_none (op.AtomicLoad cell order) is = cc
asked_none (op.Rmw cell order kind operand) is = cc
asked_none (op.CompareExchange cell success failure weak expected desired) is = cc
asked_none _ is = refl

abbrev pub AskedBy : Op → Asked → Type 0
AskedBy o asked = (op_cell o ≡ Some asked.cell) × ((events : List Event) (x : ℕ) → IsAskedAt asked events (op_reading events o x) x)

exchanged : (cell : ℕ) (success failure : Order) (desired : TypedNumber) (b : Bool) → let kind : EventKind = if b then Rmw cell success Exchange desired else AtomicLoad cell failure in
    (loaded_cell kind ≡ Some cell) × ((stored_cell kind ≡ (if b then Some cell else None)) × (is_seq_cst kind ≡ (if b then is_seq_cst_order success else is_seq_cst_order failure)))
exchanged cell success failure desired true = (refl, (refl, refl))
exchanged cell success failure desired false = (refl, (refl, refl))

pub asked_by : (o : Op) (asked : Asked) → asked_of o ≡ Some asked → AskedBy o asked
asked_by (op.AtomicLoad cell order) asked is = let same : of_order cell Never (is_seq_cst_order order) ≡ asked = cc in
    subst (λ (a : Asked). AskedBy (op.AtomicLoad cell order) a) same (refl, λ events x. record { loads = refl; stores = refl; seq_cst = refl })
asked_by (op.Rmw cell order kind operand) asked is = let same : of_order cell Always (is_seq_cst_order order) ≡ asked = cc in
    subst (λ (a : Asked). AskedBy (op.Rmw cell order kind operand) a) same (refl, λ events x. record { loads = refl; stores = refl; seq_cst = refl })
asked_by (op.CompareExchange cell success failure weak expected desired) asked is =
    let mine : Asked = record { cell = cell; writes = Behind expected; seq_cst_store = is_seq_cst_order success; seq_cst_load = is_seq_cst_order failure } in
    let same : mine ≡ asked = cc in
    subst (λ (a : Asked). AskedBy (op.CompareExchange cell success failure weak expected desired) a) same
    (refl, λ events x. let t = exchanged cell success failure desired (int_eq (value_of events x).number expected.number) in record { loads = t.0; stores = t.1.0; seq_cst = t.1.1 })
asked_by _ asked is = cc

-- lists picked from rising ones
module _ (P : ℕ → Type 0) (list : List ℕ) where
  pub picked_none : (picked : List ℕ) → picked ≡ [] → ArePicked P list 0 picked
  picked_none picked is = subst (λ (l : List ℕ). ArePicked P list 0 l) (sym is) (record { rises = λ i j x y at. cc; only = λ i x at. cc; all = λ k x lt. absurd (omega arith) })

  pub picked_skip : (count x : ℕ) (picked : List ℕ) → slice_get list count ≡ Some x → (P x → ⊥) → ArePicked P list count picked → ArePicked P list (count + 1) picked
  picked_skip count x picked at not_x r = record {
    rises = r.rises;
    only = λ i y at_y. let t = r.only i y at_y in ((t.0.0, (omega (arith, t.0.1.0), t.0.1.1)), t.1);
    all = λ k y lt at_y p. dite (ℕ_discrete k count)
        (λ (same : k ≡ count). let both : Some x ≡ Some y = sym at ∙ subst (λ (z : ℕ). slice_get list z ≡ Some y) same at_y in let e : x ≡ y = cc in absurd (not_x (subst P (sym e) p)))
        (λ (differ : k ≡ count → ⊥). r.all k y (omega arith) at_y p);
  }

  module _ (rising : (i j x y : ℕ) → slice_get list i ≡ Some x → slice_get list j ≡ Some y → i < j → x < y) where
    rises_end : (count n : ℕ) (picked : List ℕ) → slice_get list count ≡ Some n → ArePicked P list count picked → (i j x y : ℕ) → i < j
        → ((i < length picked) × (slice_get picked i ≡ Some x)) ⊎ ((i ≡ length picked) × (n ≡ x)) → ((j < length picked) × (slice_get picked j ≡ Some y)) ⊎ ((j ≡ length picked) × (n ≡ y)) → x < y
    rises_end count n picked at r i j x y lt (inl a) (inl b) = r.rises i j x y a.1 b.1 lt
    rises_end count n picked at r i j x y lt (inl a) (inr b) = let t = (r.only i x a.1).0 in omega (arith, rising t.0 count x n t.1.1 at t.1.0, b.1)
    rises_end count n picked at r i j x y lt (inr a) (inl b) = absurd (omega (arith, a.0, b.0))
    rises_end count n picked at r i j x y lt (inr a) (inr b) = absurd (omega (arith, a.0, b.0))

    pub picked_push : (count x : ℕ) (picked : List ℕ) → slice_get list count ≡ Some x → P x → ArePicked P list count picked → ArePicked P list (count + 1) (picked ++ x ∷ [])
    picked_push count n picked at p r = record {
      rises = λ i j x y at_x at_y lt. rises_end count n picked at r i j x y lt (old_or_last picked n i x at_x) (old_or_last picked n j y at_y);
      only = λ i x at_x. elim (old_or_last picked n i x at_x) [
        | inl a ↦ (let t = r.only i x a.1 in ((t.0.0, (omega (arith, t.0.1.0), t.0.1.1)), t.1))
        | inr a ↦ ((count, (omega arith, subst (λ (z : ℕ). slice_get list count ≡ Some z) a.1 at)), subst P a.1 p)
      ];
      all = λ k y lt at_y q. dite (ℕ_discrete k count)
          (λ (same : k ≡ count). let both : Some n ≡ Some y = sym at ∙ subst (λ (z : ℕ). slice_get list z ≡ Some y) same at_y in let e : n ≡ y = cc in
          (length picked, get_last picked n ∙ ap (λ (z : ℕ). Some z) e))
          (λ (differ : k ≡ count → ⊥). let t = r.all k y (omega arith) at_y q in (t.0, get_more picked n t.0 y t.1));
    }

  pub picked_all : (count : ℕ) (picked : List ℕ) → length list ≤ count → ((x : ℕ) → P x → (k : ℕ) × (slice_get list k ≡ Some x)) → ArePicked P list count picked → IsRisingList P picked
  picked_all count picked le has r = record {
    rises = r.rises;
    only = λ i x at. (r.only i x at).1;
    all = λ x p. let t = has x p in r.all t.0 x (let lt = slice_get_within list t.0 x t.1 in omega arith) t.1 p;
  }
