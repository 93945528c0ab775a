-- The answers of the graph and of the read rule together.
use Rattle.std.proofs.Common.{◌≡◌, ℕ, ◌↔◌, Bool, true, false, IsTrue, List, [], ◌∷◌, ◌++◌, Some, None, if◌then◌else◌, refl, sym, ap, ◌∙◌, subst}
use Rattle.c11_events.specs.declared.event.Event.{Event}
use Rattle.c11_events.specs.Events.{IsStore, IsRmw, stored_cell, loaded_cell, is_seq_cst}
use Rattle.c11_events.specs.Chains.{ChainLawful}
use Rattle.c11_events.specs.Values.{value_of}
use Rattle.c11_mograph.specs.Made.{Made, GoesOn, Ordered, with_pairs}
use Rattle.c11_mograph.specs.Words as graphs
use Rattle.c11_scorder.specs.Laws.{LastStoreDecides}
use Rattle.c11_mayread.specs.declared.asked.Asked.{Asked}
use Rattle.c11_mayread.specs.Asks.{stores_by}
use Rattle.c11_mayread.specs.Standing.{Words, StandsFor}
use Rattle.c11_mayread.specs.Choosing.{MayFollow, IsAskedAt}
use Rattle.c11_mayread.specs.Priors.{IsNextOf, ArePriors, KeepsReadRule}
use Rattle.c11_mayread.proofs.Offering.{NoneReached, none_reached, none_goes_on, lawful_follows, follows_lawful}

module _ (words : Words) (events : List Event) (stands : StandsFor words events) (cell x : ℕ) (store : IsStore events cell x) where
  module _ (e : Event) (from : e.from ≡ x) (stores : Bool) (list : List ℕ) (priors : ArePriors events e cell stores list)
      (precedes : Bool) (h : (m : Made) → graphs.StandsFor words.graph m → IsTrue precedes ↔ Ordered (with_pairs m list x)) where
    read : IsStore events cell e.from
    read = subst (λ (z : ℕ). IsStore events cell z) (sym from) store

    reached : IsTrue precedes ↔ NoneReached events stands.lawful stands.made stands.graph.well stands.agrees cell e read stores list priors
    reached = none_reached events stands.lawful stands.made stands.graph.well stands.agrees cell e read stores list priors precedes
        (subst (λ (z : ℕ). IsTrue precedes ↔ Ordered (with_pairs stands.made list z)) (sym from) (h stands.made stands.graph))

    -- it is not seq_cst
    pub follows_relaxed : precedes ≡ true → is_seq_cst e.kind ≡ false → MayFollow events e cell stores
    follows_relaxed is relaxed = record { prior = reached.0 is; rule = λ sc. let clash : true ≡ false = sym sc ∙ relaxed in cc }

    pub follows_ruled : precedes ≡ true → is_seq_cst e.kind ≡ true → (ruled : Bool) → IsTrue ruled ↔ KeepsReadRule events cell x → IsTrue ruled ↔ MayFollow events e cell stores
    follows_ruled is sc ruled r = (
      λ t. record { prior = reached.0 is; rule = λ _. subst (λ (z : ℕ). KeepsReadRule events cell z) (sym from) (r.0 t) },
      λ may. r.1 (subst (λ (z : ℕ). KeepsReadRule events cell z) from (may.rule sc)),
    )

    pub follows_not : precedes ≡ false → MayFollow events e cell stores → ⊥
    follows_not is may = let t : precedes ≡ true = reached.1 may.prior in let clash : false ≡ true = sym is ∙ t in cc

  module _ (decides : LastStoreDecides) (asked : Asked) (here : asked.cell ≡ cell) (e : Event) (from : e.from ≡ x) (at : IsAskedAt asked events e.kind x) where
    read_there : IsStore events cell e.from
    read_there = subst (λ (z : ℕ). IsStore events cell z) (sym from) store

    loads : loaded_cell e.kind ≡ Some cell
    loads = at.loads ∙ ap (λ (k : ℕ). Some k) here

    module _ (stores : Bool) (is : stores_by asked.writes (value_of events x) ≡ stores) where
      stored : stored_cell e.kind ≡ (if stores then Some cell else None)
      stored = at.stores ∙ ((λ i. if is i then Some asked.cell else None) ∙ ap (λ (k : ℕ). if stores then Some k else None) here)

      -- it may follow x, and none goes on from x if it stores
      abbrev pub Reads : Type 0
      Reads = MayFollow events e cell stores × (stores ≡ true → (b : ℕ) → IsRmw events cell b e.from → ⊥)

      pub lawful_reads : ChainLawful (events ++ e ∷ []) → Reads
      lawful_reads all = lawful_follows decides events stands.lawful e cell read_there loads stores stored all

      pub reads_lawful : Reads → ChainLawful (events ++ e ∷ [])
      reads_lawful r = follows_lawful decides events stands.lawful e cell read_there loads stores stored r.0 r.1

    -- a load, by whether it may follow
    pub load_offered : stores_by asked.writes (value_of events x) ≡ false → (may : Bool) → IsTrue may ↔ MayFollow events e cell false → IsTrue may ↔ ChainLawful (events ++ e ∷ [])
    load_offered is may h = (λ t. reads_lawful false is (h.0 t, λ clash b r. (let c : false ≡ true = clash in cc)), λ all. h.1 (lawful_reads false is all).0)

    ends_from : (ends : Bool) → ((m : Made) → graphs.StandsFor words.graph m → IsTrue ends ↔ ((b : ℕ) → GoesOn m.stores b x → ⊥)) → IsTrue ends ↔ ((b : ℕ) → IsRmw events cell b e.from → ⊥)
    ends_from ends h = subst (λ (z : ℕ). IsTrue ends ↔ ((b : ℕ) → IsRmw events cell b z → ⊥)) (sym from)
        (none_goes_on events stands.lawful stands.made stands.graph.well stands.agrees cell x store ends (h stands.made stands.graph))

    -- a read-modify-write, where none goes on from x
    pub store_offered : stores_by asked.writes (value_of events x) ≡ true → (ends : Bool) → ends ≡ true → ((m : Made) → graphs.StandsFor words.graph m → IsTrue ends ↔ ((b : ℕ) → GoesOn m.stores b x → ⊥))
        → (may : Bool) → IsTrue may ↔ MayFollow events e cell true → IsTrue may ↔ ChainLawful (events ++ e ∷ [])
    store_offered is ends t h may m = (λ u. reads_lawful true is (m.0 u, λ _. (ends_from ends h).0 t), λ all. m.1 (lawful_reads true is all).0)

    pub store_not_offered : stores_by asked.writes (value_of events x) ≡ true → (ends : Bool) → ends ≡ false → ((m : Made) → graphs.StandsFor words.graph m → IsTrue ends ↔ ((b : ℕ) → GoesOn m.stores b x → ⊥))
        → ChainLawful (events ++ e ∷ []) → ⊥
    store_not_offered is ends f h all = let t : ends ≡ true = (ends_from ends h).1 ((lawful_reads true is all).1 refl) in let clash : false ≡ true = sym f ∙ t in cc

    pub next_store : stores_by asked.writes (value_of events x) ≡ true → IsNextOf e.thread asked.seq_cst_store e
    next_store is = record { thread = refl; seq_cst = at.seq_cst ∙ (λ i. if is i then asked.seq_cst_store else asked.seq_cst_load) }

    pub next_load : stores_by asked.writes (value_of events x) ≡ false → IsNextOf e.thread asked.seq_cst_load e
    next_load is = record { thread = refl; seq_cst = at.seq_cst ∙ (λ i. if is i then asked.seq_cst_store else asked.seq_cst_load) }
