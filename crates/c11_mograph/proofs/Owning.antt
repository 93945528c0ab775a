-- Stores of one thread and cell stay linked in order, and what is into a chain with a store more.
use Rattle.std.proofs.Common.{◌≡◌, ℕ, zero, suc, ◌<◌, ◌≤◌, ◌&&◌, List, [], ◌∷◌, ◌++◌, Some, None, Option, Bool, slice_get, nat_eq, sym, ap, ◌∙◌, subst, refl, arith, ◌⊎◌, inl, inr, if◌then◌else◌}
use Rattle.std.proofs.lemmas.Bool.Decides.{eqb_tells}
use native.Mathlib.Decide.{ℕ_discrete}
use mathlib.Core.Logic.{dite}
use Rattle.c11_events.proofs.Prefix.{get_more}
use Rattle.c11_mograph.specs.Made.{Store, Made, IsAdded, Chain, here, IsPair, Links, Reach, CanAdd, previous, or_else, list_of, pairs_into, with_pairs, with_store}
use Rattle.c11_mograph.specs.Words.{WellMade}
use Rattle.c11_mograph.specs.Clocks.{IsInto, AreOwn, LeadsOn, OwnInOrder}
use Rattle.c11_mograph.proofs.Longer.{larger, links_less, links_longer, longer_well}
use Rattle.c11_mograph.proofs.Chains.{Rises, same_store, chain_end, chain_head, chain_less, chain_more, chain_same, added_more, added_last, added_less, added_cases}
use Rattle.c11_mograph.proofs.Orders.{links_more, pair_more, pair_behind, into_has}
use Rattle.c11_mograph.proofs.Cells.{reach_join, pair_reach}

abbrev pub IsOf : ℕ → ℕ → Store → Type 0
IsOf cell thread t = (t.cell ≡ cell) × (t.thread ≡ thread)

or_cases : (a b : Option ℕ) (p : ℕ) → or_else a b ≡ Some p → (a ≡ Some p) ⊎ (b ≡ Some p)
or_cases None b p e = inr e
or_cases (Some q) b p e = inl e

own_test : (s : Store) (cell thread p : ℕ) → (if nat_eq s.cell cell && nat_eq s.thread thread then Some s.number else None) ≡ Some p → IsOf cell thread s × (s.number ≡ p)
own_test s cell thread p e = elim (eqb_tells s.cell cell) [
  | inl t ↦ elim (eqb_tells s.thread thread) [
    | inl u ↦ let both : Some s.number ≡ Some p = sym (ap (λ (b : Bool). if b then Some s.number else None) (ap (λ (b : Bool). b && nat_eq s.thread thread) t.0 ∙ u.0)) ∙ e in ((t.1, u.1), cc)
    | inr f ↦ let clash : None ≡ Some p = sym (ap (λ (b : Bool). if b then Some s.number else None) (ap (λ (b : Bool). b && nat_eq s.thread thread) t.0 ∙ f.0)) ∙ e in cc
  ]
  | inr f ↦ let clash : None ≡ Some p = sym (ap (λ (b : Bool). if b then Some s.number else None) (ap (λ (b : Bool). b && nat_eq s.thread thread) f.0)) ∙ e in cc
]

own_is : (s : Store) (cell thread : ℕ) → IsOf cell thread s → (if nat_eq s.cell cell && nat_eq s.thread thread then Some s.number else None) ≡ Some s.number
own_is s cell thread own = elim (eqb_tells s.cell cell) [
  | inl t ↦ elim (eqb_tells s.thread thread) [
    | inl u ↦ ap (λ (b : Bool). if b then Some s.number else None) (ap (λ (b : Bool). b && nat_eq s.thread thread) t.0 ∙ u.0)
    | inr f ↦ absurd (f.1 own.1)
  ]
  | inr f ↦ absurd (f.1 own.0)
]

-- the last store of the cell by the thread is one
pub previous_own : (stores : List Store) (cell thread p : ℕ) → previous stores cell thread ≡ Some p → IsAdded stores p (IsOf cell thread)
previous_own [] cell thread p e = cc
previous_own (s ∷ ss) cell thread p e = elim (or_cases (previous ss cell thread) (if nat_eq s.cell cell && nat_eq s.thread thread then Some s.number else None) p e) [
  | inl later ↦ let t = previous_own ss cell thread p later in record { place = suc t.place; store = t.store; is = t.is; number = t.number; holds = t.holds }
  | inr own ↦ let o = own_test s cell thread p own in record { place = zero; store = s; is = refl; number = o.1; holds = o.0 }
]

-- and no other is later
pub previous_last : (stores : List Store) (cell thread : ℕ) → Rises stores → (place : ℕ) (t : Store) → slice_get stores place ≡ Some t → IsOf cell thread t
    → (p : ℕ) × ((previous stores cell thread ≡ Some p) × (t.number ≤ p))
previous_last [] cell thread rises place t is own = cc
previous_last (s ∷ ss) cell thread rises zero t is own = here_or_later (previous ss cell thread) refl
  where
    same : s ≡ t
    same = cc

    here_or_later : (o : Option ℕ) → previous ss cell thread ≡ o → (p : ℕ) × ((previous (s ∷ ss) cell thread ≡ Some p) × (t.number ≤ p))
    here_or_later None e = (
      s.number,
      (
        ap (λ (q : Option ℕ). or_else q (if nat_eq s.cell cell && nat_eq s.thread thread then Some s.number else None)) e ∙ own_is s cell thread (subst (λ (z : Store). IsOf cell thread z) (sym same) own),
        let e : t.number ≡ s.number = ap (λ (z : Store). z.number) (sym same) in omega arith,
      ),
    )
    here_or_later (Some q) e =
        let u = previous_own ss cell thread q e in
        let lt : s.number < u.store.number = rises zero (suc u.place) s u.store refl u.is (omega arith) in
        (q, (ap (λ (z : Option ℕ). or_else z (if nat_eq s.cell cell && nat_eq s.thread thread then Some s.number else None)) e, let f : t.number ≡ s.number = ap (λ (z : Store). z.number) (sym same) in omega (arith, u.number)))
previous_last (s ∷ ss) cell thread rises (suc place) t is own =
    let rest = previous_last ss cell thread (λ i j a b at at' lt. rises (suc i) (suc j) a b at at' (omega arith)) place t is own in
    (rest.0, (ap (λ (z : Option ℕ). or_else z (if nat_eq s.cell cell && nat_eq s.thread thread then Some s.number else None)) rest.1.0, rest.1.1))

-- further pairs keep the order
pub own_more : (made : Made) (prior : List ℕ) (x : ℕ) → OwnInOrder made → OwnInOrder (with_pairs made prior x)
own_more made prior x own a b both less =
    let r = own a b both less in
    record {
      h = r.h;
      k = r.k;
      i = r.i;
      j = r.j;
      first = r.first;
      second = r.second;
      leads = elim r.leads [
        | inl w ↦ inl (w.0, links_more made.stores made.pairs (made.pairs ++ pairs_into prior x) (λ c d p. pair_more made.pairs (pairs_into prior x) c d p) r.h r.k w.1)
        | inr w ↦ inr w
      ];
    }

module _ (made : Made) (well : WellMade made) (s : Store) (can : CanAdd made s) (k rank : ℕ) (mine : Chain (made.stores ++ s ∷ []) k rank s.number) where
  abbrev after : Made
  after = record made { stores = made.stores ++ s ∷ [] }

  old_added : (x : ℕ) (P : Store → Type 0) → x < s.number → IsAdded (made.stores ++ s ∷ []) x P → IsAdded made.stores x P
  old_added = added_less made.stores s (larger made well s can) well.earlier

  old_chain : (h i x : ℕ) → x < s.number → Chain (made.stores ++ s ∷ []) h i x → Chain made.stores h i x
  old_chain = chain_less made.stores s (larger made well s can) well.earlier

  -- what is into a chain was so, or is the new store
  pub into_longer_less : (u l x : ℕ) → IsInto after u l x → IsInto made u l x ⊎ (((k ≡ l) ⊎ Links made k l) × ((x ≡ s.number) × (u ≡ s.thread)))
  into_longer_less u l x t = elim (added_cases made.stores s x (λ v. v.thread ≡ u) t.by) [
    | inl old ↦ inl (record {
      by = old;
      h = t.h;
      i = t.i;
      chain = old_chain t.h t.i x (larger made well s can x (λ v. v.thread ≡ u) old) t.chain;
      leads = elim t.leads [ inl e ↦ inl e | inr w ↦ inr (links_less made well s can t.h l w) ];
    })
    | inr new ↦
        let heads = chain_same (made.stores ++ s ∷ []) (longer_well made well s can).rises t.h t.i k rank s.number (subst (λ (z : ℕ). Chain (made.stores ++ s ∷ []) t.h t.i z) (sym new.0) t.chain) mine in
        inr (
          elim t.leads [ inl e ↦ inl (sym heads.0 ∙ e) | inr w ↦ inr (subst (λ (z : ℕ). Links made z l) heads.0 (links_less made well s can t.h l w)) ],
          (sym new.0, sym new.1),
        )
  ]

  pub into_longer_keeps : (u l x : ℕ) → IsInto made u l x → IsInto after u l x
  into_longer_keeps u l x t = record {
    by = added_more made.stores s x (λ v. v.thread ≡ u) t.by;
    h = t.h;
    i = t.i;
    chain = chain_more made.stores s t.h t.i x t.chain;
    leads = elim t.leads [ inl e ↦ inl e | inr w ↦ inr (links_longer made well s can t.h l w) ];
  }

  pub into_longer_new : (l : ℕ) → ((k ≡ l) ⊎ Links made k l) → IsInto after s.thread l s.number
  into_longer_new l way = record {
    by = added_last made.stores s (λ v. v.thread ≡ s.thread) refl;
    h = k;
    i = rank;
    chain = mine;
    leads = elim way [ inl e ↦ inl e | inr w ↦ inr (links_longer made well s can k l w) ];
  }

  reach_after : (a b : ℕ) → Reach made a b → Reach after a b
  reach_after a b r = record {
    h = r.h;
    k = r.k;
    i = r.i;
    j = r.j;
    first = chain_more made.stores s r.h r.i a r.first;
    second = chain_more made.stores s r.k r.j b r.second;
    leads = elim r.leads [ inl w ↦ inl (w.0, links_longer made well s can r.h r.k w.1) | inr w ↦ inr w ];
  }

  -- two stores of one cell and thread, both old
  both_old : (a b : ℕ) → a < b → b < s.number → AreOwn (made.stores ++ s ∷ []) a b → AreOwn made.stores a b
  both_old a b less below both =
      let t = old_added a (λ v. IsAdded (made.stores ++ s ∷ []) b (λ w. (v.cell ≡ w.cell) × (v.thread ≡ w.thread))) (omega arith) both in
      record { place = t.place; store = t.store; is = t.is; number = t.number; holds = old_added b (λ w. (t.store.cell ≡ w.cell) × (t.store.thread ≡ w.thread)) below t.holds }

  -- with the new store, but not its link, its chain's head still leads on
  pub head_leads_on : OwnInOrder made → LeadsOn after k
  head_leads_on own b both less =
      let t = both.holds in
      elim (added_cases made.stores s b (λ w. (both.store.cell ≡ w.cell) × (both.store.thread ≡ w.thread)) t) [
        | inl old ↦ let below = larger made well s can b (λ w. (both.store.cell ≡ w.cell) × (both.store.thread ≡ w.thread)) old in
            reach_after k b (own k b (both_old k b less below both) less)
        | inr new ↦
            let ended = chain_end (made.stores ++ s ∷ []) k rank s.number mine in
            record {
              h = k;
              k = k;
              i = 0;
              j = rank;
              first = here (chain_head (made.stores ++ s ∷ []) k rank s.number mine);
              second = subst (λ (z : ℕ). Chain (made.stores ++ s ∷ []) k rank z) new.0 mine;
              leads = inr (refl, elim ended [ inl p ↦ absurd (omega (arith, p.1.0, new.0)) | inr p ↦ omega (arith, p.1.1.0) ]);
            }
      ]

  -- with its link the order is kept
  module _ (well' : WellMade (with_store made s)) (placed : (x : ℕ) (P : Store → Type 0) → IsAdded made.stores x P → (h : ℕ) × ((i : ℕ) × Chain made.stores h i x)) (own : OwnInOrder made) where
    reach_whole : (a b : ℕ) → Reach made a b → Reach (with_store made s) a b
    reach_whole a b r =
        let q = reach_after a b r in
        record {
          h = q.h;
          k = q.k;
          i = q.i;
          j = q.j;
          first = q.first;
          second = q.second;
          leads = elim q.leads [
            | inl w ↦ inl (
              w.0,
              links_more (made.stores ++ s ∷ []) made.pairs (made.pairs ++ pairs_into (list_of (previous made.stores s.cell s.thread)) s.number)
                  (λ c d p. pair_more made.pairs (pairs_into (list_of (previous made.stores s.cell s.thread)) s.number) c d p) q.h q.k w.1,
            )
            | inr w ↦ inr w
          ];
        }

    linked_to : (p : ℕ) → previous made.stores s.cell s.thread ≡ Some p → Reach (with_store made s) p s.number
    linked_to p e =
        let t = previous_own made.stores s.cell s.thread p e in
        let below : p < s.number = larger made well s can p (IsOf s.cell s.thread) t in
        let c = placed p (IsOf s.cell s.thread) t in
        let pair : IsPair (made.pairs ++ pairs_into (list_of (previous made.stores s.cell s.thread)) s.number) p s.number =
        subst (λ (o : Option ℕ). IsPair (made.pairs ++ pairs_into (list_of o) s.number) p s.number) (sym e)
        (pair_behind made.pairs (pairs_into (p ∷ []) s.number) p s.number (into_has (p ∷ []) s.number p (record { place = zero; is = refl }) (λ same. omega arith))) in
        pair_reach (with_store made s) well' p s.number c.0 k c.1.0 rank pair (λ same. omega arith) (chain_more made.stores s c.0 c.1.0 p c.1.1) mine

    pub own_longer : OwnInOrder (with_store made s)
    own_longer a b both less = elim (added_cases made.stores s b (λ w. (both.store.cell ≡ w.cell) × (both.store.thread ≡ w.thread)) both.holds) [
      | inl old ↦ let below = larger made well s can b (λ w. (both.store.cell ≡ w.cell) × (both.store.thread ≡ w.thread)) old in
          reach_whole a b (own a b (both_old a b less below both) less)
      | inr new ↦
          let below : a < s.number = omega (arith, new.0) in
          let t = old_added a (λ v. IsAdded (made.stores ++ s ∷ []) b (λ w. (v.cell ≡ w.cell) × (v.thread ≡ w.thread))) below both in
          let same : t.store ≡ both.store = same_store (made.stores ++ s ∷ []) (longer_well made well s can).rises a
          (λ v. IsAdded (made.stores ++ s ∷ []) b (λ w. (v.cell ≡ w.cell) × (v.thread ≡ w.thread))) (λ v. IsAdded (made.stores ++ s ∷ []) b (λ w. (v.cell ≡ w.cell) × (v.thread ≡ w.thread)))
          (record { place = t.place; store = t.store; is = get_more made.stores (s ∷ []) t.place t.store t.is; number = t.number; holds = t.holds }) both in
          let is_of : IsOf s.cell s.thread t.store = (ap (λ (z : Store). z.cell) same ∙ new.1.0, ap (λ (z : Store). z.thread) same ∙ new.1.1) in
          let l = previous_last made.stores s.cell s.thread well.rises t.place t.store t.is is_of in
          let to_new : Reach (with_store made s) l.0 b = subst (λ (z : ℕ). Reach (with_store made s) l.0 z) new.0 (linked_to l.0 l.1.0) in
          dite (ℕ_discrete a l.0)
          (λ (here : a ≡ l.0). subst (λ (z : ℕ). Reach (with_store made s) z b) (sym here) to_new)
          (λ (before : a ≡ l.0 → ⊥).
          let p = previous_own made.stores s.cell s.thread l.0 l.1.0 in
          let lt : a < l.0 = omega (arith, l.1.1, t.number) in
          let own_p : AreOwn made.stores a l.0 = record { place = t.place; store = t.store; is = t.is; number = t.number; holds = record { place = p.place; store = p.store; is = p.is; number = p.number; holds = (is_of.0 ∙ sym p.holds.0, is_of.1 ∙ sym p.holds.1) } } in
          reach_join (with_store made s) well' a l.0 b (reach_whole a l.0 (own a l.0 own_p lt)) to_new)
    ]
