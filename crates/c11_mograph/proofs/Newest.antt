-- The heads of the cells with a store more, and how they are gone through.
use Rattle.std.proofs.Common.{◌≡◌, ℕ, zero, suc, ◌+◌, ◌<◌, ◌≤◌, List, [], ◌∷◌, ◌++◌, Bool, Some, None, replicate, length, slice_get, slice_set, slice_index_or, ◌-◌, sym, ap, ◌∙◌, subst, refl, arith, length-append, inl, inr}
use Rattle.std.proofs.lemmas.Option.{slice_get_within, slice_get-get_or}
use Rattle.std.proofs.lemmas.List.{length-set}
use native.Mathlib.Decide.{ℕ_discrete}
use mathlib.Core.Logic.{dite}
use Rattle.c11_events.proofs.Prefix.{get_more}
use Rattle.c11_events.proofs.Longer.{get_last}
use Rattle.c11_mograph.specs.declared.kept.Kept.{Kept}
use Rattle.c11_mograph.specs.Heads.{IsHead, IsNewest, AreLinked}
use Rattle.c11_mograph.proofs.Places.{more_at, set_cases, set_here, set_there}

no_next : (count cell next : ℕ) → slice_get (replicate count 0) cell ≡ Some next → 0 ≡ next
no_next zero cell next at = cc
no_next (suc count) zero next at = cc
no_next (suc count) (suc cell) next at = no_next count cell next at

-- without a store no cell has a head
pub none_linked : (newest : List ℕ) (count : ℕ) → newest ≡ replicate count 0 → AreLinked [] newest
none_linked newest count is = record {
  older = λ place k at. let clash : None ≡ Some k = at in cc;
  last = λ cell next at. subst (λ (n : ℕ). IsNewest [] cell 0 n) (no_next count cell next (ap (λ (xs : List ℕ). slice_get xs cell) (sym is) ∙ at))
      (record { within = omega arith; head = λ place e. absurd (omega arith); none = λ place _ less. absurd (omega arith) });
}

module _ (kept : List Kept) (store : Kept) where
  abbrev longer : List Kept
  longer = kept ++ store ∷ []

  head_more : (cell place : ℕ) → IsHead kept cell place → IsHead longer cell place
  head_more cell place h = record { here = h.here; is = get_more kept (store ∷ []) place h.here h.is; of_cell = h.of_cell; begins = h.begins }

  head_less : (cell place : ℕ) → place < length kept → IsHead longer cell place → IsHead kept cell place
  head_less cell place less h = elim (more_at kept place store h.here h.is) [
    | inl old ↦ record { here = h.here; is = old; of_cell = h.of_cell; begins = h.begins }
    | inr new ↦ absurd (omega (arith, new.0))
  ]

  newest_more : (cell bound next : ℕ) → bound ≤ length kept → IsNewest kept cell bound next → IsNewest longer cell bound next
  newest_more cell bound next within n = record {
    within = n.within;
    head = λ place e. head_more cell place (n.head place e);
    none = λ place below less h. n.none place below less (head_less cell place (omega arith) h);
  }

  -- the new store is not a head of the cell
  newest_longer : (cell next : ℕ) → (IsHead longer cell (length kept) → ⊥) → IsNewest kept cell (length kept) next → IsNewest longer cell (length longer) next
  newest_longer cell next none n = record {
    within = omega (arith, n.within, length-append kept (store ∷ []));
    head = λ place e. head_more cell place (n.head place e);
    none = λ place below less h. elim (more_at kept place store h.here h.is) [
      | inl old ↦ n.none place below (slice_get_within kept place h.here old) (record { here = h.here; is = old; of_cell = h.of_cell; begins = h.begins })
      | inr new ↦ none (subst (λ (p : ℕ). IsHead longer cell p) new.0 h)
    ];
  }

-- a store more leads to the last head of its cell
module _ (kept all : List Kept) (newest : List ℕ) (store : Kept) (more : all ≡ kept ++ store ∷ []) (linked : AreLinked kept newest) (own : slice_get newest store.cell ≡ Some store.older) where
  older_all : (place : ℕ) (k : Kept) → slice_get (kept ++ store ∷ []) place ≡ Some k → IsNewest (kept ++ store ∷ []) k.cell place k.older
  older_all place k at = elim (more_at kept place store k at) [
    | inl old ↦ newest_more kept store k.cell place k.older (let lt = slice_get_within kept place k old in omega arith) (linked.older place k old)
    | inr new ↦ subst (λ (z : Kept). IsNewest (kept ++ store ∷ []) z.cell place z.older) new.1
        (subst (λ (n : ℕ). IsNewest (kept ++ store ∷ []) store.cell n store.older) (sym new.0) (newest_more kept store store.cell (length kept) store.older (omega arith) (linked.last store.cell store.older own)))
  ]

  own_place : slice_get (kept ++ store ∷ []) (length kept) ≡ Some store
  own_place = get_last kept store

  -- it begins no chain
  pub goes_on_linked : (store.head ≡ length kept → ⊥) → AreLinked all newest
  goes_on_linked other = subst (λ (xs : List Kept). AreLinked xs newest) (sym more) (record {
    older = older_all;
    last = λ cell next at. newest_longer kept store cell next
        (λ h. let both : Some h.here ≡ Some store = sym h.is ∙ own_place in let same : h.here ≡ store = cc in other (sym (ap (λ (k : Kept). k.head) same) ∙ h.begins)) (linked.last cell next at);
  })

  -- it is the newest head of its cell
  pub begins_linked : store.head ≡ length kept → AreLinked all (slice_set newest store.cell (length kept + 1))
  begins_linked begins = subst (λ (xs : List Kept). AreLinked xs (slice_set newest store.cell (length kept + 1))) (sym more) (record {
    older = older_all;
    last = λ cell next at. elim (set_cases newest store.cell cell (length kept + 1) next at) [
      | inl here ↦ subst (λ (n : ℕ). IsNewest (kept ++ store ∷ []) n (length (kept ++ store ∷ [])) next) (sym here.0)
          (subst (λ (n : ℕ). IsNewest (kept ++ store ∷ []) store.cell (length (kept ++ store ∷ [])) n) here.1 (record {
            within = omega (arith, length-append kept (store ∷ []));
            head = λ place e. let same : length kept ≡ place = omega arith in
                subst (λ (p : ℕ). IsHead (kept ++ store ∷ []) store.cell p) same (record { here = store; is = own_place; of_cell = refl; begins = begins });
            none = λ place below less. absurd (omega (arith, length-append kept (store ∷ [])));
          }))
      | inr there ↦ newest_longer kept store cell next
          (λ h. let both : Some h.here ≡ Some store = sym h.is ∙ own_place in let same : h.here ≡ store = cc in there.0 (sym h.of_cell ∙ ap (λ (k : Kept). k.cell) same)) (linked.last cell next there.1)
    ];
  })

-- that a store goes on from another changes no link
module _ (kept : List Kept) (newest : List ℕ) (i : ℕ) (store : Kept) (ends : Bool) (is : slice_get kept i ≡ Some store) where
  abbrev marked : List Kept
  marked = slice_set kept i (record store { ends = ends })

  unmarked : (place : ℕ) (k : Kept) → slice_get marked place ≡ Some k → (e : Kept) × ((slice_get kept place ≡ Some e) × (record e { ends = k.ends } ≡ k))
  unmarked place k at = elim (set_cases kept i place (record store { ends = ends }) k at) [
    | inl here ↦ (store, (ap (λ (p : ℕ). slice_get kept p) here.0 ∙ is, ap (λ (z : Kept). record store { ends = z.ends }) (sym here.1) ∙ here.1))
    | inr there ↦ (k, (there.1, refl))
  ]

  head_before : (cell place : ℕ) → IsHead marked cell place → IsHead kept cell place
  head_before cell place h = let u = unmarked place h.here h.is in
      record { here = u.0; is = u.1.0; of_cell = ap (λ (k : Kept). k.cell) u.1.1 ∙ h.of_cell; begins = ap (λ (k : Kept). k.head) u.1.1 ∙ h.begins }

  head_after : (cell place : ℕ) → IsHead kept cell place → IsHead marked cell place
  head_after cell place h = dite (ℕ_discrete place i)
      (λ (here : place ≡ i).
      let both : Some h.here ≡ Some store = sym h.is ∙ (ap (λ (p : ℕ). slice_get kept p) here ∙ is) in
      let same : h.here ≡ store = cc in
      record {
        here = record store { ends = ends };
        is = ap (λ (p : ℕ). slice_get marked p) here ∙ set_here kept i (record store { ends = ends }) store is;
        of_cell = sym (ap (λ (k : Kept). k.cell) same) ∙ h.of_cell;
        begins = sym (ap (λ (k : Kept). k.head) same) ∙ h.begins;
      })
      (λ (other : place ≡ i → ⊥). record { here = h.here; is = set_there kept i place (record store { ends = ends }) other ∙ h.is; of_cell = h.of_cell; begins = h.begins })

  newest_after : (cell bound next : ℕ) → IsNewest kept cell bound next → IsNewest marked cell bound next
  newest_after cell bound next n = record {
    within = n.within;
    head = λ place e. head_after cell place (n.head place e);
    none = λ place below less h. n.none place below less (head_before cell place h);
  }

  pub still_linked : AreLinked kept newest → AreLinked (slice_set kept i (record store { ends = ends })) newest
  still_linked linked = record {
    older = λ place k at. let u = unmarked place k at in
        subst (λ (z : Kept). IsNewest marked z.cell place z.older) u.1.1 (newest_after u.0.cell place u.0.older (linked.older place u.0 u.1.0));
    last = λ cell next at. subst (λ (n : ℕ). IsNewest marked cell n next) (sym (length-set kept i (record store { ends = ends }))) (newest_after cell (length kept) next (linked.last cell next at));
  }

-- the head one before the next, and the one that it leads to
pub visited : (kept : List Kept) (newest : List ℕ) (cell next : ℕ) (blank : Kept) → AreLinked kept newest → 0 < next → next ≤ length kept → ((place : ℕ) → next ≡ place + 1 → IsHead kept cell place)
    → IsHead kept cell (next - 1) × (IsNewest kept cell (next - 1) (slice_index_or kept (next - 1) blank).older × (next ≡ (next - 1) + 1))
visited kept newest cell next blank linked some within head =
    let same : next ≡ (next - 1) + 1 = omega arith in
    let here = head (next - 1) same in
    let at : slice_get kept (next - 1) ≡ Some (slice_index_or kept (next - 1) blank) = slice_get-get_or kept (next - 1) blank (omega arith) in
    let both : Some here.here ≡ Some (slice_index_or kept (next - 1) blank) = sym here.is ∙ at in
    let is : here.here ≡ slice_index_or kept (next - 1) blank = cc in
    (here, (subst (λ (n : ℕ). IsNewest kept n (next - 1) (slice_index_or kept (next - 1) blank).older) (sym (ap (λ (k : Kept). k.cell) is) ∙ here.of_cell) (linked.older (next - 1) (slice_index_or kept (next - 1) blank) at), same))
